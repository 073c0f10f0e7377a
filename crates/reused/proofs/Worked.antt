-- The runs of the table, by evaluation of the definitions.
use mathlib.Core.Path.{refl}
use Rattle.reused.specs.Circle.{ahead, arc}
use Rattle.reused.specs.Steps.{chosen}
use Rattle.reused.specs.State.{sound_sizes, sound, start_of}
use Rattle.reused.specs.Called.{entered, called}
use Rattle.reused.specs.Run.{after, notes}
use Rattle.reused.specs.Table.{Runs}

pub runs_worked : Runs
unfolding ahead arc chosen sound_sizes sound start_of entered called after notes
runs_worked =
    record {
      A = refl;
      A-x = refl;
      B = refl;
      C = refl;
      D = refl;
      E = refl;
      F = refl;
      G = refl;
      G-tags = refl;
      H = refl;
      H-before = refl;
      H-after = refl;
      H-else = refl;
      I = refl;
      J = refl;
      K = refl;
      L = refl;
      least = refl;
      most = refl;
      no_process = refl;
      many_processes = refl;
      small_circle = refl;
      smallest_circle = refl;
      large_circle = refl;
      both_out = refl;
    }
