-- The start is ready, so the blocks can be played; head, records and what lies past them make the log.
use Rattle.std.proofs.Common.{◌≡◌, ℕ, ap, ◌∙◌, arith, length-drop}
use Rattle.machine.specs.State.{start_of, started_as}
use Rattle.run_log.proofs.Laws.{tail_given}
use Rattle.bench.proofs.WholeRun.{accepted, entry_count, few_entries, start_ready, first_room, over_first, rest_there, last_is, log_is}
use Rattle.bench.proofs.whole.run_entries.Goals as goal

pub overflow_cast-count : goal.overflow_cast-count
overflow_cast-count c = omega (arith, few_entries c.args.file.now c.args.start.n c.args.start.s c.args.start.v c.args.entries c.requires.0)

pub play_entries-played-requires : goal.play_entries-played-requires
play_entries-played-requires c =
    let f = c.args.file.now in
    let n = c.args.start.n in
    let s = c.args.start.s in
    let v = c.args.start.v in
    let k = c.args.entries in
    let begun : started_as c.start-started.result ≡ start_of n (record { 0 = s }) v =
    c.start-started.ensures ∙ ap (λ (m : ℕ). start_of m (record { 0 = s }) v) c.from.ensures in
    let is = c.requires.0 in (
      accepted f n s v k is,
      start_ready f n s v k is _ begun,
      rw (tail_given, length-drop) (rest_there f n s v k is _ begun _ (first_room f n s v k is _ begun _ c.requires.1 _ c.lay_head.ensures)),
      omega (arith, entry_count f n s v k is, few_entries f n s v k is),
    )

pub returns : goal.returns
returns c =
    let f = c.args.file.now in
    let n = c.args.start.n in
    let s = c.args.start.s in
    let v = c.args.start.v in
    let k = c.args.entries in
    let begun : started_as c.start-started.result ≡ start_of n (record { 0 = s }) v =
    c.start-started.ensures ∙ ap (λ (m : ℕ). start_of m (record { 0 = s }) v) c.from.ensures in
    let is = c.requires.0 in
    let played = c.play_entries-played.ensures in
    let room = first_room f n s v k is _ begun _ c.requires.1 _ c.lay_head.ensures in (
      last_is f n s v k is _ begun _ room _ played.0 _ played.1,
      log_is f n s v k is _ begun _ room _ played.0 _ played.1 _ c.lay_head-2.ensures ∙ over_first f n s v k is _ begun _ c.requires.1 _ c.lay_head.ensures,
    )
