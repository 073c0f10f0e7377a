use Rattle.std.proofs.Common.{◌≡◌, ℕ, List, [], ◌+◌, ◌-◌, ◌/◌, ◌<◌, length, take, drop, get_or, refl, sym, ap, ◌∙◌, arith}
use Rattle.std.specs.Simd.{first_chunks}
use Rattle.numbers.specs.Refusals.{refusal_number}
use Rattle.numbers.proofs.Refusals.{refused}
use Rattle.schedule.specs.File.{later_number, count, block_at, blocks_after, entries_to, file_entries, in_turn}
use Rattle.schedule.specs.Told.{accepted_from}
use Rattle.schedule.proofs.Laws.{chunk_behind, behind_length}
use Rattle.schedule.proofs.Entries.{entries_more}
use Rattle.schedule.proofs.AcceptedFile.{length_blocks, later_count, turn_refused, turn_next}
use Rattle.schedule.proofs.file.read_later.Goals as goal

pub loop-i-init : goal.loop-i-init
unfolding entries_to
loop-i-init c =
    let after = blocks_after c.args.file.now in
    let e : after - 0 ≡ after = omega arith in
    record { bounded = omega arith; counted = refl; turn = rw e }

-- the block at hand, and that there is one
block : (f : List ℕ) (cs : List (List ℕ)) (i : ℕ) (d : List ℕ) → cs ≡ first_chunks 512 (length f / 512) f → length cs ≡ length f / 512
    → i < length (take (length cs - 1) (drop 1 cs)) → get_or (take (length cs - 1) (drop 1 cs)) i d ≡ block_at f (i + 1)
block f cs i d e n h = chunk_behind 512 f cs i d e n (rw behind_length at h)

within : (f : List ℕ) (cs : List (List ℕ)) (i : ℕ) → length cs ≡ length f / 512 → i < length (take (length cs - 1) (drop 1 cs)) → i < blocks_after f
within f cs i n h = omega (arith, behind_length cs)

-- it is refused, and with it, by the invariant, the file
pub returns-in-Err : goal.returns-in-Err
returns-in-Err c =
    let f = c.args.file.now in
    let i = c.loop-i.i in
    let cs = c.as_chunks.result.0.now in
    let l : i < blocks_after f = within f cs i c.as_chunks.ensures.front_len c.loop-i-test.true in
    let at : _ ≡ block_at f (i + 1) = block f cs i [] c.as_chunks.ensures.front c.as_chunks.ensures.front_len c.loop-i-test.true in
    turn_refused f (i + 1) (accepted_from c.args.start (length (file_entries f))) (refusal_number c.in-Err.refusal)
    (c.in-Err.ensures.0 ∙ ap (λ (b : List ℕ). later_number b (i + 1)) at)
    (blocks_after f - i) (omega (arith, l)) (λ e. omega (arith, refused c.in-Err.refusal, e))
    ∙ sym c.loop-i.invariant.turn

-- it is accepted: its count is the length of its entries, and the definition goes on to the next block
pub overflow_add-entries : goal.overflow_add-entries
overflow_add-entries c =
    let f = c.args.file.now in
    let i = c.loop-i.i in
    let cs = c.as_chunks.result.0.now in
    let l : i < blocks_after f = within f cs i c.as_chunks.ensures.front_len c.loop-i-test.true in
    omega (arith, l, later_count _ (i + 1) (sym c.in-Ok.ensures.0), length_blocks (length f) c.requires)

pub loop-i-preserved : goal.loop-i-preserved
loop-i-preserved c =
    let f = c.args.file.now in
    let i = c.loop-i.i in
    let cs = c.as_chunks.result.0.now in
    let ok = accepted_from c.args.start (length (file_entries f)) in
    let l : i < blocks_after f = within f cs i c.as_chunks.ensures.front_len c.loop-i-test.true in
    let at : _ ≡ block_at f (i + 1) = block f cs i [] c.as_chunks.ensures.front c.as_chunks.ensures.front_len c.loop-i-test.true in
    let e : blocks_after f - i - 1 ≡ blocks_after f - (i + 1) = omega arith in
    record {
      bounded = omega (arith, later_count _ (i + 1) (sym c.in-Ok.ensures.0));
      counted =
          rw (entries_more f i, c.loop-i.invariant.counted, c.in-Ok.ensures.1) (ap (λ (b : List ℕ). length (entries_to f i) + count b) at);
      turn =
          c.loop-i.invariant.turn
          ∙ turn_next f (i + 1) ok 0 (c.in-Ok.ensures.0 ∙ ap (λ (b : List ℕ). later_number b (i + 1)) at) (blocks_after f - i) (omega (arith, l)) refl
          ∙ ap (λ (n : ℕ). in_turn f (i + 1 + 1) n ok) e;
    }

pub returns : goal.returns
unfolding in_turn
returns c =
    let f = c.args.file.now in
    let cs = c.as_chunks.result.0.now in
    let e : c.loop-i.i ≡ blocks_after f = omega (arith, behind_length cs, c.as_chunks.ensures.front_len, c.loop-i-test.false, c.loop-i.auto.i-end) in
    let none : blocks_after f - c.loop-i.i ≡ 0 = omega (arith, e) in
    rw (c.loop-i.invariant.turn, none, c.loop-i.invariant.counted, e)
