-- The part that the lookup gives back: by what loading answers, and by where the name begins. Assumes nothing.
use Prim.Native.Nat.{ℕ, ◌+◌, ◌-◌, ◌^◌, ◌≤◌, ◌<◌}
use native.Mathlib.Omega.{arith}
use mathlib.Core.List.{List}
use Rattle.std.specs.Prelude.{Option, Some, None, Result, Ok, Err}
use mathlib.Core.Path.{◌≡◌, sym, ap, ◌∙◌, subst}
use lib.ListN.{length, take, drop}
use mir.Syntax.{w64}
use mir.Val.{Fits}
use Rattle.theory_words.specs.Name.{name_size, unfilled}
use Rattle.answers.specs.declared.Fault.{Fault}
use Rattle.answers.specs.Answers.{outcome_of}
use Rattle.results.specs.Answer.{loaded}
use Rattle.results.specs.Load.{Loading, load_of}
use Rattle.results.specs.Name as Meant
use Rattle.results.specs.Name.{empty_part, name_offset, part_from, name_part, name_of}
use Rattle.results.proofs.Loading.Named.{Told, name-told, part-loaded, part-refused, part-within}
use Rattle.load.specs.declared.Loaded.{Loaded}
use Rattle.load.specs.Answer.{loading_of}
use Rattle.lookup.specs.declared.Part.{Part}
use Rattle.lookup.specs.Found.{found_of, part_of}

module _ (bytes : List ℕ) (r : ℕ) where
  -- ---- where the part is

  module _ (l : Loaded) (loads : loading_of l ≡ load_of bytes) where
    answers : (o : Result (Unit {0}) Fault) → l.outcome ≡ o → (load_of bytes).answer ≡ outcome_of o
    answers o e = sym (ap (λ (x : Loading). x.answer) loads) ∙ ap outcome_of e

    pub not-loaded : (f : Fault) → l.outcome ≡ Err f → empty_part ≡ name_part bytes r
    not-loaded f e = sym (part-refused bytes r _ f.at (answers (Err f) e))

    pub is-loaded : l.outcome ≡ Ok tt → (load_of bytes).answer ≡ loaded
    is-loaded e = answers (Ok tt) e

    module _ (accepted : l.outcome ≡ Ok tt) (f : Option ℕ) (found : found_of f ≡ name_offset bytes r) where
      -- the part, by where the name begins
      part_by : (m : Option ℕ) → f ≡ m → name_part bytes r ≡ part_from bytes (found_of m)
      part_by m e = part-loaded bytes r (is-loaded accepted) ∙ ap (part_from bytes) (sym found ∙ ap found_of e)

      pub not_found : f ≡ None → empty_part ≡ name_part bytes r
      not_found e = sym (part_by None e)

      pub found-room : (at : ℕ) → f ≡ Some at → at + name_size ≤ length bytes
      found-room at e =
          (subst (Told bytes r (load_of bytes).grammar) (sym found ∙ ap found_of e) (name-told bytes r (is-loaded accepted))).whole

      pub found_part : (at n : ℕ) → f ≡ Some at → (n ≡ length (unfilled (take name_size (drop at bytes)))) × (n ≤ name_size)
          → part_of (record { offset = at; length = n }) ≡ name_part bytes r
      found_part at n e p = sym (part_by (Some at) e ∙ ap (λ (k : ℕ). record { offset = at; length = k }) (sym p.0))

  -- ---- the bytes of the part

  module _ (p : Part) (is : part_of p ≡ name_part bytes r) where
    pub end-within : p.offset + p.length ≤ length bytes
    end-within = subst (λ (x : Meant.Part). x.offset + x.length ≤ length bytes) (sym is) (part-within bytes r)

    pub end_fits : length bytes < 2 ^ 64 → Fits w64 (p.offset + p.length)
    end_fits h = record { fits = omega (arith, end-within) }

    pub part_bytes : take (p.offset + p.length - p.offset) (drop p.offset bytes) ≡ name_of bytes r
    unfolding name_of
    part_bytes =
        let e : p.offset + p.length - p.offset ≡ p.length = omega arith in
        ap (λ (k : ℕ). take k (drop p.offset bytes)) e
        ∙ ap (λ (x : Meant.Part). take x.length (drop x.offset bytes)) is
