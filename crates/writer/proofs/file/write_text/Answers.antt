-- What refuses the text, then the room, then the file.
use Rattle.std.proofs.Common.{arith, Ok, Err, refl, ap, ◌∙◌}
use Rattle.std.proofs.lemmas.Result.{err_from_is_err_and}
use Rattle.writer.specs.Types.{TextRefusal}
use Rattle.writer.specs.Parts.{scanned_as}
use Rattle.writer.specs.Writer.{written_as}
use Rattle.writer.proofs.Further.{part_from}
use Rattle.writer.proofs.Answers.{Accepted, accepted_scan, written_refused, written_short, written_whole}
use Rattle.writer.proofs.file.write_text.Goals as goal
use Rattle.writer.proofs.file.write_text.Goals.{In_ok-told}

pub returns-in_err-told : goal.returns-in_err-told
returns-in_err-told c =
    let p = err_from_is_err_and c.from_residual.result c.from_residual.ensures.1 in
    let told = written_refused c.args.text.now c.args.out.now c.in_err-told.field-0.0 c.in_err-told.ensures in
    (ap written_as (p.1 ∙ ap (λ (e : TextRefusal). Err e) p.2) ∙ told.0, told.1)

-- what is known of an accepted text
known : (c : In_ok-told) → Accepted c.args.text.now (scanned_as (Ok c.in_ok-told.told))
known c = accepted_scan c.args.text.now (scanned_as (Ok c.in_ok-told.told)) c.in_ok-told.ensures refl

pub overflow_mul-length : goal.overflow_mul-length
overflow_mul-length c = omega (arith, c.block_count.ensures, (known ((goal.at.overflow_mul-length c).In_ok-told)).few)

pub overflow_add-length : goal.overflow_add-length
overflow_add-length c = omega (arith, c.block_count.ensures, (known ((goal.at.overflow_add-length c).In_ok-told)).few)

pub returns-then-out-length : goal.returns-then-out-length
returns-then-out-length c =
    let known = known ((goal.at.returns-then-out-length c).In_ok-told) in
    let told = written_short c.args.text.now c.args.out.now _ known (rw (← c.block_count.ensures) c.if-out-length.true) in
    (rw c.from.ensures told.0, told.1)

pub slice_bounds-write_file-count : goal.slice_bounds-write_file-count
slice_bounds-write_file-count c = (known ((goal.at.slice_bounds-write_file-count c).In_ok-told)).within

pub slice_bounds-write_file-start : goal.slice_bounds-write_file-start
slice_bounds-write_file-start c = (known ((goal.at.slice_bounds-write_file-start c).In_ok-told)).within

pub write_file-requires : goal.write_file-requires
write_file-requires c =
    let k = known ((goal.at.write_file-requires c).In_ok-told) in
    let all = part_from c.args.text.now c.in_ok-told.told.from in
    record { form = rw all k.form; count = rw all k.count; few = k.few; room = rw (← c.block_count.ensures) c.if-out-length.false }

pub returns : goal.returns
returns c =
    let known = known ((goal.at.returns c).In_ok-told) in
    let all = part_from c.args.text.now c.in_ok-told.told.from in
    let told = written_whole c.args.text.now c.args.out.now _ known (rw (← c.block_count.ensures) c.if-out-length.false) (rw (← all) c.write_file.ensures) in
    (rw c.block_count.ensures told.0, told.1)
