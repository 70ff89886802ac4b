-- Demand 1 for loading, for every list of numbers as bytes: it is refused at its first fault from the left, or read to its end.
-- Assumes nothing.
use Prim.Native.Nat.{ℕ, zero, suc, ◌-◌, ◌≤◌}
use native.Mathlib.Omega.{arith}
use mathlib.Core.List.{List}
use mathlib.Core.Logic.{inl, inr}
use mathlib.Core.Path.{◌≡◌, refl, sym, ap, ◌∙◌, subst}
use lib.ListN.{length, get_or}
use Rattle.cfg.specs.Nullable.{depth_of}
use Rattle.grammar.specs.declared.Grammar.{Grammar}
use Rattle.grammar.specs.Setters.{set_depth}
use Rattle.grammar.specs.View.{whole_of}
use Rattle.grammar.specs.Zero.{zero_grammar}
use Rattle.grammar.proofs.Setters.{set-depth-valid}
use Rattle.results.specs.Load.{Fault, Step, stop, next, done, step, refused_load, accepted_load, run, load_of}
use Rattle.results.proofs.Loading.Run.{step_past, run-stop, run-next, run-done, step-forward}
use Rattle.results.proofs.Loading.Commands.{Invariant, step_kept, step-done}
use Rattle.demands.specs.LoadOrder.{CommandOrder}
use Rattle.demands.specs.LoadDemand.{Reached, begin, further, LoadRefused, LoadAccepted, LoadDemand}
use Rattle.demands.proofs.LoadOrder.{step-order}
use Rattle.demands.proofs.LoadFault.{step-fault}
use Rattle.demands.proofs.LoadUnused.{Tidy, tidy-invariant}

-- another nullable depth does not change this
pub depth-tidy : (g : Grammar) (d : ℕ) → Tidy g → Tidy (set_depth g d)
depth-tidy g d T = record {
  valid = set-depth-valid g T.valid d;
  behind = record { size = T.behind.size; unused = T.behind.unused; places = T.behind.places };
}

module _ (bytes : List ℕ) where
  -- what each command keeps holds of each offset and grammar that is reached
  reached-kept : {P : ℕ → Grammar → Type 0} → Invariant bytes P → {at : ℕ} {g : Grammar} → Reached bytes at g → P at g
  reached-kept I begin = I.zero
  reached-kept I (further {at} {at'} {g} {g'} R e) = step_kept I at g (reached-kept I R) at' g' e

  refused : (at : ℕ) (g : Grammar) (f : Fault) → Reached bytes at g → step bytes at g ≡ stop f → LoadRefused bytes (refused_load f)
  unfolding refused_load
  refused at g f R e = record {
    number = f.number;
    offset = f.offset;
    answer = refl;
    grammar = refl;
    at = at;
    before = g;
    reached = R;
    stops = e;
    fault = step-fault bytes at g f.number f.offset e;
    order = subst (CommandOrder bytes at (get_or bytes at 0) g) e (step-order bytes at g);
  }

  accepted : (at : ℕ) (g g' : Grammar) → Reached bytes at g → step bytes at g ≡ done g' → LoadAccepted bytes (accepted_load g')
  unfolding accepted_load
  accepted at g g' R e =
      let E = step-done bytes at g g' e in
      let T = depth-tidy g' (depth_of (whole_of g')) (subst Tidy (sym E.same) (reached-kept (tidy-invariant bytes) R)) in
      record {
        answer = refl;
        at = at;
        read = g;
        reached = R;
        ends = e ∙ ap done E.same;
        fifty = E.command;
        last = omega (arith, E.last);
        grammar = ap (λ (h : Grammar). set_depth h (depth_of (whole_of h))) E.same;
        valid = T.valid;
        behind = T.behind;
      }

  -- from each offset that is reached, if at least as many commands are allowed as bytes are left
  run-demand : (n at : ℕ) (g : Grammar) → length bytes - at ≤ n → Reached bytes at g → LoadDemand bytes (run bytes n at g)
  unfolding run
  run-demand zero at g h R = inl (refused at g _ R (step_past bytes at g (omega arith)))
  run-demand (suc n) at g h R = go (step bytes at g) refl (run-demand n)
    where
      go : (s : Step) → step bytes at g ≡ s
          → ((at' : ℕ) (g' : Grammar) → length bytes - at' ≤ n → Reached bytes at' g' → LoadDemand bytes (run bytes n at' g'))
          → LoadDemand bytes (run bytes (suc n) at g)
      go (stop f) e r = subst (LoadDemand bytes) (sym (run-stop n bytes at g f e)) (inl (refused at g f R e))
      go (next at' g') e r =
          let l = step-forward bytes at g at' g' e in
          subst (LoadDemand bytes) (sym (run-next n bytes at g at' g' e)) (r at' g' (omega arith) (further R e))
      go (done g') e r = subst (LoadDemand bytes) (sym (run-done n bytes at g g' e)) (inr (accepted at g g' R e))

pub load-demand : (bytes : List ℕ) → LoadDemand bytes (load_of bytes)
unfolding load_of
load-demand bytes = run-demand bytes (length bytes) 0 zero_grammar (omega arith) begin
