-- Two loops. The outer one keeps `Walk`: after so many blocks state, count and log are those of the run of their entries. The inner one keeps
-- `Turn`, the same from where its block began.
use Rattle.std.proofs.Common.{◌-◌, ◌/◌, length}
use Rattle.schedule.specs.File.{block_at}
use Rattle.schedule.specs.Direct.{used_part}
use Rattle.bench.proofs.Turn.{Turn}
use Rattle.bench.proofs.Walk.{Walk}
use Rattle.bench.proofs.entries.play_entries.Given as goal

abbrev pub invariant-loop-bytes : goal.invariant-loop-bytes
invariant-loop-bytes l =
    Turn (used_part (block_at l.file l.k)) l.initial.rest (length (used_part (block_at l.file l.k)) / 12) l.initial.i (record { n = l.n; s = l.s; x = l.initial.x; rows = l.initial.rows; records = l.initial.records }) l.initial.changes
    l.rest (record { n = l.n; s = l.s; x = l.x; rows = l.rows; records = l.records }) l.changes l.i l.bytes-index

abbrev pub invariant-loop-k : goal.invariant-loop-k
invariant-loop-k l =
    Walk l.file l.initial.rest (record { n = l.n; s = l.s; x = l.initial.x; rows = l.initial.rows; records = l.initial.records }) l.initial.changes
    l.rest (record { n = l.n; s = l.s; x = l.x; rows = l.rows; records = l.records }) l.changes (l.k - 1) l.i
