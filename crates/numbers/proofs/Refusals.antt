-- No two refusals have the same number, and none has the number 0.
use Prim.Native.Nat.{ℕ, ◌<◌}
use mathlib.Core.Path.{◌≡◌, refl, sym, ◌∙◌, ap}
use mathlib.Core.Bool.{cond}
use native.Mathlib.Omega.{arith}
use lib.Dec.{eqb}
use Rattle.std.specs.Prelude.{Result, Ok, Err}
use Rattle.numbers.specs.Refusals.{refusal_number, number_in}
use Rattle.numbers.specs.Types.{Refusal, Length, Check, Place, Entries, LogRoom, Processes, LastNumber, BlockCount, StrayByte, CircleSize, Form, TooMany, OutputRoom}

-- the refusal of a number
abbrev pub refusal_of : ℕ → Refusal
refusal_of n =
    cond (eqb n 1) Length
    (cond (eqb n 2) Check
    (cond (eqb n 3) Place
    (cond (eqb n 5) Entries
    (cond (eqb n 6) LogRoom
    (cond (eqb n 16) Processes
    (cond (eqb n 17) LastNumber
    (cond (eqb n 18) BlockCount
    (cond (eqb n 19) StrayByte
    (cond (eqb n 24) CircleSize
    (cond (eqb n 25) Form
    (cond (eqb n 26) TooMany OutputRoom)))))))))))

pub refusal_back : (e : Refusal) → refusal_of (refusal_number e) ≡ e
refusal_back Length = refl
refusal_back Check = refl
refusal_back Place = refl
refusal_back Entries = refl
refusal_back LogRoom = refl
refusal_back Processes = refl
refusal_back LastNumber = refl
refusal_back BlockCount = refl
refusal_back StrayByte = refl
refusal_back CircleSize = refl
refusal_back Form = refl
refusal_back TooMany = refl
refusal_back OutputRoom = refl

pub same_refusal : (d e : Refusal) → refusal_number d ≡ refusal_number e → d ≡ e
same_refusal d e h = sym (refusal_back d) ∙ (ap refusal_of h ∙ refusal_back e)

-- what a number tells: 0 that nothing was found
abbrev told_by : ℕ → Result (Unit {0}) Refusal
told_by n = cond (eqb n 0) (Ok tt) (Err (refusal_of n))

told_back : (r : Result (Unit {0}) Refusal) → told_by (number_in r) ≡ r
told_back (Ok x) = refl
told_back (Err Length) = refl
told_back (Err Check) = refl
told_back (Err Place) = refl
told_back (Err Entries) = refl
told_back (Err LogRoom) = refl
told_back (Err Processes) = refl
told_back (Err LastNumber) = refl
told_back (Err BlockCount) = refl
told_back (Err StrayByte) = refl
told_back (Err CircleSize) = refl
told_back (Err Form) = refl
told_back (Err TooMany) = refl
told_back (Err OutputRoom) = refl

pub same_answer : (r s : Result (Unit {0}) Refusal) → number_in r ≡ number_in s → r ≡ s
same_answer r s h = sym (told_back r) ∙ (ap told_by h ∙ told_back s)

-- no refusal has the number 0
pub refused : (e : Refusal) → 0 < refusal_number e
refused Length = omega arith
refused Check = omega arith
refused Place = omega arith
refused Entries = omega arith
refused LogRoom = omega arith
refused Processes = omega arith
refused LastNumber = omega arith
refused BlockCount = omega arith
refused StrayByte = omega arith
refused CircleSize = omega arith
refused Form = omega arith
refused TooMany = omega arith
refused OutputRoom = omega arith
