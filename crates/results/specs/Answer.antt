-- The answers of document 01, and how the first check that fails decides a refusal. Assumes nothing.
use Rattle.std.specs.Prelude.{ℕ, Bool, true, false, List, [], ◌∷◌}

-- what a call on a loaded grammar answers: the number of a refusal, or what was asked for. Opening, taking, check and same build answer
-- yes or no, length answers tenths of a millimetre
pub data Answer (A : Type 0) : Type 0 where
  refused : ℕ → Answer A
  answered : A → Answer A

-- first and next: how many nodes (parts) the derivation in the output has, or that there is none: "no reading" from first, "none" from next
pub data Handing : Type 0 where
  handed : ℕ → Handing
  nothing : Handing

-- count: a figure, or "more"
pub data Figure : Type 0 where
  counted : ℕ → Figure
  more : Figure

-- loading: the number of the refusal and its offset, or loaded
pub data LoadAnswer : Type 0 where
  refused_at : ℕ → ℕ → LoadAnswer
  loaded : LoadAnswer

-- a check: whether it fails, and what is refused then
pub record Check (A : Type 0) : Type 0 where
  pub fails : Bool
  pub refusal : A

abbrev pub check : {A : Type 0} → Bool → A → Check A
check b a = record { fails = b; refusal = a }

-- the first check that fails decides; if none does, the call goes on
unfoldable pub decide : {A B : Type 0} → List (Check A) → (A → B) → (Unit {0} → B) → B
decide [] refuse go = go tt
decide (c ∷ checks) refuse go = elim c.fails [ true ↦ refuse c.refusal | false ↦ decide checks refuse go ]
