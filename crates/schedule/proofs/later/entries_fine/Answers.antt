-- The chunk at hand is the next entry.
use Rattle.std.proofs.Common.{◌≡◌, ◌<◌, [], ap, ◌∙◌, add-one, arith}
use Rattle.schedule.specs.File.{entry_bytes, entry_fine, entries_fine}
use Rattle.schedule.proofs.Entries.{chunk_count, chunk_entry}
use Rattle.schedule.proofs.later.entries_fine.Goals as goal

pub loop-e-preserved : goal.loop-e-preserved
loop-e-preserved c =
    let b = c.args.b.now in
    let n = c.args.c in
    let i = c.loop-e.e-index in
    let l : i < n = omega (arith, c.loop-e-test.true, c.as_chunks.ensures.front_len, chunk_count b n (omega arith)) in
    let e : c.entry_fine-fine.result ≡ entry_fine (entry_bytes b i) =
    c.entry_fine-fine.ensures ∙ ap entry_fine (chunk_entry b n (omega arith) c.as_chunks.result.0.now i [] c.as_chunks.ensures.front l) in
    rw (add-one i, e, c.loop-e.invariant)

pub returns : goal.returns
returns c =
    let b = c.args.b.now in
    let n = c.args.c in
    let e : c.loop-e.e-index ≡ n =
    omega (arith, c.loop-e-test.false, c.loop-e.auto.e-index-end, c.as_chunks.ensures.front_len, chunk_count b n (omega arith)) in
    c.loop-e.invariant ∙ ap (entries_fine b) e
