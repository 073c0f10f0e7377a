-- The loop keeps `Filling`: the lines of the entries passed stand at the front of the part, one behind the other.
use Rattle.text.proofs.Filling.{Filling}
use Rattle.text.proofs.page.write_lines_of.Given as goal

abbrev pub invariant-loop-next : goal.invariant-loop-next
invariant-loop-next l = Filling l.initial.out l.log l.place l.end l.out l.at l.next
