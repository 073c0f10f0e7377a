-- What block 0 says decides what the file says.
use Rattle.std.proofs.Common.{◌≡◌, ℕ, List, ◌-◌, ◌/◌, ◌<◌, length, get_or, true, sym, ap, ◌∙◌, arith}
use Rattle.std.specs.Simd.{first_chunks}
use Rattle.schedule.specs.File.{length_fine, block_at, blocks_after}
use Rattle.schedule.specs.Direct.{first_of}
use Rattle.schedule.proofs.Laws.{chunk_read}
use Rattle.schedule.proofs.AcceptedFile.{length_blocks, then_later, reading_by_first}
use Rattle.schedule.proofs.file.read_file.Goals as goal

-- what is read of the first chunk is read of block 0
first : (f : List ℕ) (cs : List (List ℕ)) (d : List ℕ) → cs ≡ first_chunks 512 (length f / 512) f → length cs ≡ length f / 512
    → length_fine (length f) ≡ true → first_of (get_or cs 0 d) (length cs - 1) ≡ first_of (block_at f 0) (blocks_after f)
first f cs d e n fine =
    let l : 0 < length f / 512 = omega (arith, length_blocks (length f) fine) in
    let same : length cs - 1 ≡ blocks_after f = omega (arith, n) in
    ap (λ (b : List ℕ). first_of b (length cs - 1)) (chunk_read 512 f cs 0 d e l) ∙ ap (first_of (block_at f 0)) same

pub returns-in-Ok : goal.returns-in-Ok
returns-in-Ok c =
    let f = c.args.file.now in
    let fine : length_fine (length f) ≡ true = sym c.length_fine.ensures ∙ c.if-not-length_fine.false in
    c.read_later.ensures
    ∙ ap (then_later f) (c.in-Ok.ensures ∙ first f c.as_chunks.result.0.now _ c.as_chunks.ensures.front c.as_chunks.ensures.front_len fine)
    ∙ reading_by_first f fine

pub returns-in-Err : goal.returns-in-Err
returns-in-Err c =
    let f = c.args.file.now in
    let fine : length_fine (length f) ≡ true = sym c.length_fine.ensures ∙ c.if-not-length_fine.false in
    ap (then_later f) (c.in-Err.ensures ∙ first f c.as_chunks.result.0.now _ c.as_chunks.ensures.front c.as_chunks.ensures.front_len fine)
    ∙ reading_by_first f fine
