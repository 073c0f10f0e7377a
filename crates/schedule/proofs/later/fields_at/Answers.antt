use Rattle.std.proofs.Common.{◌≡◌, ◌+◌, ◌*◌, ◌/◌, ◌<◌, length, take, drop, ap, ◌∙◌, arith, le-leb}
use Rattle.schedule.specs.Direct.{fields_of}
use Rattle.schedule.specs.Direct.{fields_at}
use Rattle.schedule.proofs.Laws.{chunk_read}
use Rattle.schedule.proofs.later.fields_at.Goals as goal

pub returns-in-Some : goal.returns-in-Some
unfolding fields_at
returns-in-Some c =
    let p = c.args.part.now in
    let l : c.args.j < length p / 12 = omega (arith, c.in-Some.ensures.lookup.3.0, c.as_chunks.ensures.front_len) in
    let at : c.in-Some.e.now ≡ take 12 (drop (12 * c.args.j) p) =
    c.in-Some.ensures.lookup.1 ∙ chunk_read 12 p _ c.args.j _ c.as_chunks.ensures.front l in
    rw (le-leb (12 * c.args.j + 12) (length p) (omega arith)) (c.read_fields.ensures ∙ ap fields_of at)
