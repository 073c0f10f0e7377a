-- How long the text is, and then the text.
use Rattle.std.proofs.Common.{◌≡◌, ◌≤◌, ◌<◌, length, refl, sym, ◌∙◌, arith}
use Rattle.std.proofs.lemmas.Bool.{le-leb, lt-leb}
use Rattle.run_log.proofs.Laws.{laid_short, stored}
use Rattle.writer.specs.Made.{listing}
use Rattle.lister.proofs.Answers.{text_most}
use Rattle.lister.proofs.listing.list_accepted.Goals as goal

pub put_text-requires : goal.put_text-requires
put_text-requires c =
    let a = c.args in
    (rw c.requires, omega (arith, text_most a.file.now a.accepted.start.n a.accepted.start.s a.accepted.start.v a.accepted.entries c.requires))

pub lay_text-requires : goal.lay_text-requires
lay_text-requires c = (rw c.requires, omega (arith, c.put_text.ensures))

pub returns-then-out-need : goal.returns-then-out-need
returns-then-out-need c =
    let text = listing c.args.file.now c.args.accepted.start.n c.args.accepted.start.s c.args.accepted.start.v in
    let short : length c.args.out.now < length text = omega (arith, c.put_text.ensures) in
    rw (lt-leb (length text) (length c.args.out.now) short) (refl, sym (laid_short text c.args.out.now short))

pub returns : goal.returns
returns c =
    let text = listing c.args.file.now c.args.accepted.start.n c.args.accepted.start.s c.args.accepted.start.v in
    let size : c.put_text.new.to.bytes ≡ length text = omega (arith, c.put_text.ensures) in
    let fits : length text ≤ length c.args.out.now = omega arith in
    rw (le-leb (length text) (length c.args.out.now) fits, size) (refl, c.lay_text.ensures ∙ stored text c.args.out.now fits)
