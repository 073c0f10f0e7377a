-- The process and its search place have rows, and what the entry is given is sound.
use Rattle.reused.proofs.PartsOfRun.{row_place, process_there, search_there, entry_given}
use Rattle.reused.proofs.State.enter.Goals as goal

pub offset_bounds-self-i : goal.offset_bounds-self-i
offset_bounds-self-i c = row_place _ (process_there c.args.self c.args.p c.requires.0 c.requires.1)

pub bounds-self-i : goal.bounds-self-i
bounds-self-i c = process_there c.args.self c.args.p c.requires.0 c.requires.1

pub offset_bounds-self-j : goal.offset_bounds-self-j
offset_bounds-self-j c = row_place _ (search_there c.args.self c.args.p c.requires.0 c.requires.1)

pub bounds-self-j : goal.bounds-self-j
bounds-self-j c = search_there c.args.self c.args.p c.requires.0 c.requires.1

pub invariant_of-turn : goal.invariant_of-turn
invariant_of-turn c = record { in_range = (entry_given c.args.self c.args.p c.requires.0 c.requires.1).0 }

pub invariant_of-turn-2 : goal.invariant_of-turn-2
invariant_of-turn-2 c =
    let given = entry_given c.args.self c.args.p c.requires.0 c.requires.1 in
    record { own_sound = given.1; looked_sound = given.2 }

pub offset_bounds-state-i : goal.offset_bounds-state-i
offset_bounds-state-i c = row_place _ (process_there c.args.self c.args.p c.requires.0 c.requires.1)

pub bounds-state-i : goal.bounds-state-i
bounds-state-i c = process_there c.args.self c.args.p c.requires.0 c.requires.1
