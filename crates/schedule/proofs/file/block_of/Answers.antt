-- What is left at the end is shorter than a block, so that taking 512 bytes of it takes all.
use Rattle.std.proofs.Common.{◌≡◌, ◌*◌, ◌/◌, ◌<◌, length, drop, sym, ◌∙◌, arith, length-drop}
use Rattle.std.proofs.lemmas.List.{take_all}
use Rattle.schedule.proofs.Laws.{chunk_read}
use Rattle.schedule.proofs.file.block_of.Goals as goal

pub returns-in-Some : goal.returns-in-Some
returns-in-Some c =
    let l : c.args.k < length c.args.file.now / 512 = omega (arith, c.in-Some.ensures.lookup.3.0, c.as_chunks.ensures.front_len) in
    c.in-Some.ensures.lookup.1 ∙ chunk_read 512 c.args.file.now _ c.args.k _ c.as_chunks.ensures.front l

pub returns-in-None : goal.returns-in-None
returns-in-None c =
    let f = c.args.file.now in
    let e : length f / 512 * 512 ≡ 512 * c.args.k = omega (arith, c.as_chunks.ensures.front_len) in
    c.as_chunks.ensures.back ∙ rw e (sym (take_all 512 (drop (512 * c.args.k) f) (simp length-drop (omega arith))))
