-- The loop over the blocks: the run of a file is the run of its blocks one after another, and its records stand one behind the other.
use Prim.Native.Nat.{ℕ, zero, suc, ◌+◌, ◌*◌, ◌/◌, ◌≤◌, ◌<◌}
use mathlib.Core.Path.{◌≡◌, refl, sym, ap, ◌∙◌}
use mathlib.Core.Bool.{true, cond, and-eq-true_iff}
use mathlib.Core.List.{List, ◌++◌, map, map-append}
use native.Mathlib.Numerals.{add-one}
use native.Mathlib.Omega.{arith}
use native.Mathlib.Decide.{dec_le}
use lib.Dec.{eqb, leb}
use lib.ListN.{length, take, drop, length-append, length-drop, length-map}
use lib.Seq.{take_at, drop_at, drop-drop}
use borrow.Author.Tests.{leb-true}
use Rattle.bench.specs.Types.{Version, Entry, Kind, Ask, Step, Load, Store, Check, State}
use Rattle.machine.specs.Frame.{Ready}
use Rattle.machine.specs.Parts.{kind_by}
use Rattle.machine.specs.Run.{notes, after, change_count}
use Rattle.machine.proofs.RunLaws.{ready_after, after_append, notes_append, notes_length, count_append, count_most}
use Rattle.schedule.specs.File.{kind, process, value, kind_fine, entry_by, no_entry, meant, count, entry_bytes, block_entries, block_at, blocks_after, entries_to, file_entries, reading}
use Rattle.schedule.specs.Direct.{is_accepted, fields_of, fields_at, entry_at, part_entries, used_part}
use Rattle.schedule.proofs.Entries.{block_entry, part_entries_lem, used_length, used_entry, used_fields, entries_none, entries_next, entries_more}
use Rattle.schedule.proofs.AcceptedFile.{later_kind, accepted_block, accepted_room, accepted_bound}
use Rattle.run_log.specs.Log.{records_of}
use Rattle.run_log.proofs.Laws.{records_length, records_append}
use Rattle.bench.specs.Play.{played_from, records_from}
use Rattle.bench.specs.Bench.{in_log}
use Rattle.bench.proofs.Turn.{asked, Turn, turn_start}

-- An entry of a kind that there is asks what its fields say.
meant_asked : (e : List ℕ) → kind_fine e ≡ true → meant e ≡ asked (fields_of e)
unfolding meant
meant_asked e fine =
    let ends = (and-eq-true_iff (leb 1 (kind e)) (leb (kind e) 4)).0 fine in
    go (kind e) (leb-true 1 (kind e) ends.0) (leb-true (kind e) 4 ends.1)
  where
    by : Kind → Entry
    by what = entry_by (process e) what

    go : (k : ℕ) → 1 ≤ k → k ≤ 4
        → cond (eqb k 1) (by (Ask Load)) (cond (eqb k 2) (by (Ask (Store (value e)))) (cond (eqb k 3) (by (Ask Check)) (cond (eqb k 4) (by Step) no_entry))) ≡ by (kind_by k (value e))
    go zero l m = absurd (omega arith)
    go (suc zero) l m = refl
    go (suc (suc zero)) l m = refl
    go (suc (suc (suc zero))) l m = refl
    go (suc (suc (suc (suc zero)))) l m = refl
    go (suc (suc (suc (suc (suc k))))) l m = absurd (omega arith)

pub entries_fewer : (f : List ℕ) (k n : ℕ) → k ≤ n → length (entries_to f k) ≤ length (entries_to f n)
entries_fewer f zero zero l = omega arith
entries_fewer f (suc k) zero l = absurd (omega (arith, l))
entries_fewer f k (suc n) l = go (dec_le k n) (λ h. entries_fewer f k n h)
  where
    more : length (entries_to f (suc n)) ≡ length (entries_to f n) + count (block_at f (n + 1))
    more = ap (λ (m : ℕ). length (entries_to f m)) (sym (add-one n)) ∙ entries_more f n

    go : Dec (k ≤ n) → (k ≤ n → length (entries_to f k) ≤ length (entries_to f n)) → length (entries_to f k) ≤ length (entries_to f (suc n))
    go (yes h) below = omega (arith, below h, more)
    go (no ge) below =
        let e : k ≡ suc n = omega (arith, ge, l) in
        rw e (omega arith)

-- What the loop over the blocks keeps: after `done` blocks state, count and log are those of the run of their entries.
pub record Walk (f rest₀ : List ℕ) (st₀ : State) (changes₀ : Version) (rest : List ℕ) (st : State) (changes : Version) (done i : ℕ) : Type 0 where
  pub ok : is_accepted (reading f) ≡ true
  pub ready : Ready st₀
  pub room : 12 * length (file_entries f) ≤ length rest₀
  pub few : changes₀.0 + length (file_entries f) < 4294967295
  pub within : done ≤ blocks_after f
  pub place : i ≡ length (entries_to f done)
  pub state : st ≡ after st₀ (entries_to f done)
  pub count : changes.0 ≡ changes₀.0 + change_count (notes st₀ (entries_to f done))
  pub log : rest ≡ records_of (map in_log (notes st₀ (entries_to f done))) ++ drop (12 * i) rest₀

pub walk_start : (f rest₀ : List ℕ) (st₀ : State) (changes₀ : Version) → is_accepted (reading f) ≡ true → Ready st₀ → 12 * length (file_entries f) ≤ length rest₀
    → changes₀.0 + length (file_entries f) < 4294967295 → Walk f rest₀ st₀ changes₀ rest₀ st₀ changes₀ 0 0
unfolding after notes change_count records_of
walk_start f rest₀ st₀ changes₀ ok ready room few =
    record {
      ok = ok;
      ready = ready;
      room = room;
      few = few;
      within = omega arith;
      place = rw (entries_none f);
      state = rw (entries_none f);
      count = rw (entries_none f) (omega arith);
      log = rw (entries_none f);
    }

module _ {f rest₀ : List ℕ} {st₀ : State} {changes₀ : Version} {rest₁ : List ℕ} {st₁ : State} {changes₁ : Version} {done i₁ : ℕ}
    (h : Walk f rest₀ st₀ changes₀ rest₁ st₁ changes₁ done i₁) where
  -- how many entries there are up to the next block, and that there is room for their records
  next_count : length (entries_to f (done + 1)) ≡ i₁ + count (block_at f (done + 1))
  next_count = entries_more f done ∙ ap (λ (k : ℕ). k + count (block_at f (done + 1))) (sym h.place)

  next_fits : done < blocks_after f → i₁ + count (block_at f (done + 1)) ≤ length (file_entries f)
  next_fits l = omega (arith, next_count, entries_fewer f (done + 1) (blocks_after f) (omega arith))

  so_far_fits : i₁ ≤ length (file_entries f)
  so_far_fits = omega (arith, h.place, entries_fewer f done (blocks_after f) h.within)

  abbrev so_far : List ℕ
  so_far = records_of (map in_log (notes st₀ (entries_to f done)))

  written_so_far : length so_far ≡ 12 * i₁
  written_so_far = rw (records_length, length-map, notes_length, h.place)

  pub walk_length : length rest₁ ≡ length rest₀
  walk_length = rw (h.log, length-append, written_so_far, length-drop) (omega (arith, so_far_fits, h.room))

  block_room : done < blocks_after f → 4 + 12 * count (block_at f (done + 1)) ≤ length (block_at f (done + 1))
  block_room l = accepted_room f h.ok (done + 1) (omega arith) (omega (arith, l))

  -- the part of the next block
  module _ (l : done < blocks_after f) (b part : List ℕ) (is : b ≡ block_at f (done + 1)) (used : part ≡ used_part b) where
    part_size : length part / 12 ≡ count (block_at f (done + 1))
    part_size = rw (used, is, used_length (block_at f (done + 1)) (block_room l)) (omega arith)

    -- its entries ask what the fields of their bytes say
    part_asked : (k : ℕ) → k < length part / 12 → entry_at part k ≡ asked (fields_at part k)
    part_asked k below = rw (used, is) (read ∙ ap asked (sym (used_fields next (block_room l) k there)))
      where
        next : List ℕ
        next = block_at f (done + 1)

        there : k < count (block_at f (done + 1))
        there = omega (arith, below, part_size)

        fine : kind_fine (entry_bytes next k) ≡ true
        fine = later_kind next (done + 1) (accepted_block f h.ok (done + 1) (omega arith) (omega (arith, l))) k there

        read : entry_at (used_part next) k ≡ asked (fields_of (entry_bytes next k))
        read = used_entry next (block_room l) k ∙ block_entry next k there ∙ meant_asked (entry_bytes next k) fine

    part_low : i₁ + length part / 12 ≤ 5334
    part_low = omega (arith, part_size, next_fits l, accepted_bound f h.ok)

    part_room : 12 * (i₁ + length part / 12) ≤ length rest₁
    part_room = rw (part_size, walk_length) (omega (arith, next_fits l, h.room))

    part_few : changes₁.0 + length part / 12 < 4294967295
    part_few =
        let es = entries_to f done in
        let most = count_most (notes st₀ es) in
        let long = notes_length st₀ es in
        rw part_size (omega (arith, most, long, h.count, h.place, next_fits l, h.few))

    -- so the loop over its entries can begin
    pub block_start : Turn part rest₁ (length part / 12) i₁ st₁ changes₁ rest₁ st₁ changes₁ i₁ 0
    block_start = turn_start part rest₁ (length part / 12) i₁ st₁ changes₁ (rw h.state (ready_after st₀ (entries_to f done) h.ready)) part_asked part_low part_room part_few

    -- and where that loop ends, one block more is done
    module _ {rest : List ℕ} {st : State} {changes : Version} {i j : ℕ} (t : Turn part rest₁ (length part / 12) i₁ st₁ changes₁ rest st changes i j) (all : length part / 12 ≤ j) where
      abbrev es : List Entry
      es = entries_to f done

      abbrev fs : List Entry
      fs = block_entries (block_at f (done + 1))

      file_entries_lem : es ++ fs ≡ entries_to f (done + 1)
      file_entries_lem = sym (entries_next f done)

      turned : j ≡ length part / 12
      turned = omega (arith, t.within, all)

      turn_entries : part_entries part j ≡ fs
      turn_entries = rw (turned, used, is) (part_entries_lem (block_at f (done + 1)) (block_room l))

      more_notes : notes st₀ (entries_to f (done + 1)) ≡ notes st₀ es ++ notes st₁ (part_entries part j)
      more_notes = ap (notes st₀) (sym file_entries_lem) ∙ notes_append st₀ es fs ∙ rw (turn_entries, h.state)

      front : take (12 * i₁) rest₁ ≡ so_far
      front = rw h.log (take_at so_far (drop (12 * i₁) rest₀) (12 * i₁) written_so_far)

      behind : drop (12 * i) rest₁ ≡ drop (12 * i) rest₀
      behind =
          let e : 12 * i ≡ 12 * i₁ + 12 * j = omega (arith, t.place) in
          rw e
          (sym (drop-drop (12 * j) (12 * i₁) rest₁)
          ∙ ap (drop (12 * j)) (rw h.log (drop_at so_far (drop (12 * i₁) rest₀) (12 * i₁) written_so_far))
          ∙ drop-drop (12 * j) (12 * i₁) rest₀)

      joined : so_far ++ records_of (map in_log (notes st₁ (part_entries part j))) ≡ records_of (map in_log (notes st₀ (entries_to f (done + 1))))
      joined = rw (more_notes, map-append, records_append)

      pub walk_next : Walk f rest₀ st₀ changes₀ rest st changes (done + 1) i
      walk_next =
          record {
            ok = h.ok;
            ready = h.ready;
            room = h.room;
            few = h.few;
            within = omega arith;
            place = omega (arith, t.place, turned, part_size, next_count);
            state = t.state ∙ rw (turn_entries, h.state) (sym (after_append st₀ es fs) ∙ ap (after st₀) file_entries_lem);
            count = omega (arith, t.count, h.count, ap change_count more_notes ∙ count_append (notes st₀ es) (notes st₁ (part_entries part j)));
            log = t.log ∙ rw (front, behind, joined);
          }

  pub walk_end : blocks_after f ≤ done
      → (record { state = st₁; changes = changes₁ } ≡ played_from (record { state = st₀; changes = changes₀ }) (file_entries f))
      × (rest₁ ≡ records_from (record { state = st₀; changes = changes₀ }) (file_entries f) rest₀)
  unfolding played_from records_from
  walk_end l = (rw (← top) (λ k. record { state = h.state k; changes = record { 0 = h.count k } }), rw (← top, ← h.place) h.log)
    where
      top : done ≡ blocks_after f
      top = omega (arith, h.within, l)
