-- Runs A to L, by evaluation of the definitions.
use mathlib.Core.Path.{refl}
use Rattle.step.specs.Steps.{step_of, request_of}
use Rattle.machine.specs.State.{sound, start_of}
use Rattle.machine.specs.Entry.{entered, called}
use Rattle.machine.specs.Run.{notes}
use Rattle.machine.specs.Table.{RunsAToL}

pub runs_a_to_l_lem : RunsAToL
unfolding step_of request_of sound start_of entered called notes
runs_a_to_l_lem =
    record {
      A = refl;
      B = refl;
      C = refl;
      D = refl;
      E = refl;
      F = refl;
      G = refl;
      H = refl;
      I = refl;
      J = refl;
      K = refl;
      L = refl;
    }
