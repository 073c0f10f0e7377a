-- What it means that a promise determines its function's answer. `ended`, `clauses` and `spec` of a function are the kit's: what its
-- source says under `requires` and `ensures`, and the contract that it is proved to meet (`statement`).
use Rattle.std.specs.Prelude.{◌≡◌}
use seplogic.Ra.Ura.{Ura}
use base.Logic.{SProp}
use prog.Memory.{Memory}
use prog.Routine.{Routine}
use types.Logic.{Logic}
use contract.Lifetimes.{Lfts}
use contract.Monad.{Fun}
use denote.Triple.Clauses.{Ended, Clauses, Lasts, at_exit, closing}
use denote.Triple.Entry.{Args, Res}
use denote.Triple.Spec.{Spec}

-- A function's clauses, and the contract that it is proved to meet, over every model of the logic.
abbrev pub Promise : Type 1 → Ended → Type 2
Promise M T = (𝓤 : Ura M) → (𝓛 : Logic 𝓤) → (Memory → SProp 𝓤) → (Routine → Fun 𝓤) → Clauses 𝓤 T

abbrev pub Contract : Type 1 → Ended → Type 2
Contract M T = (𝓤 : Ura M) → (𝓛 : Logic 𝓤) → (Memory → SProp 𝓤) → (Routine → Fun 𝓤) → Spec 𝓤 T.signature

module _ (M : Type 1) (T : Ended) (c : Promise M T) where
  -- The contract says what the clauses say, and nothing else.
  abbrev pub Stated : Contract M T → Type 2
  Stated s = (𝓤 : Ura M) (𝓛 : Logic 𝓤) (mem : Memory → SProp 𝓤) (run : Routine → Fun 𝓤)
      → s 𝓤 𝓛 mem run ≡ closing 𝓛 T (c 𝓤 𝓛 mem run)

  -- A result, and a last value for each `&mut` of the arguments a, that meet the promise: in some model it holds of them.
  pub record Meets (κs : Lfts T.signature.lifetimes) (a : Args T.signature κs) : Type 2 where
    pub 𝓤 : Ura M
    pub 𝓛 : Logic 𝓤
    pub mem : Memory → SProp 𝓤
    pub run : Routine → Fun 𝓤
    pub ghost : (c 𝓤 𝓛 mem run κs a).ghost
    pub result : Res T.signature κs
    pub last : Lasts T κs a
    pub resource : M
    pub met : ((c 𝓤 𝓛 mem run κs a).ensures ghost result (at_exit T κs a last)).holds resource

  -- The contract is the promise's, and of the same arguments any two that meet it are equal, in the result and in every last value.
  abbrev pub Determined : Contract M T → Type 2
  Determined s =
      Stated s
      × ((κs : Lfts T.signature.lifetimes) (a : Args T.signature κs) (k l : Meets κs a) → (k.result ≡ l.result) × (k.last ≡ l.last))

  -- The same where the answer is a slice, of which the promise says what stands there and not where: what `see` reads is equal.
  abbrev pub DeterminedBy : {X : Type 0}
      → ((κs : Lfts T.signature.lifetimes) → Res T.signature κs → X) → Contract M T → Type 2
  DeterminedBy see s =
      Stated s
      × ((κs : Lfts T.signature.lifetimes) (a : Args T.signature κs) (k l : Meets κs a)
      → (see κs k.result ≡ see κs l.result) × (k.last ≡ l.last))
