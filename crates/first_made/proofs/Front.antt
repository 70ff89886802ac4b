-- A list whose front is another one. Assumes nothing.
use Prim.Native.Nat.{ℕ, ◌+◌, ◌-◌, ◌≤◌, ◌<◌}
use mathlib.Core.List.{List, ◌++◌}
use mathlib.Core.Logic.{dite}
use mathlib.Core.Path.{◌≡◌, sym, ap, ◌∙◌}
use native.Mathlib.Decide.{dec_lt}
use native.Mathlib.Omega.{arith}
use lib.ListN.{length, get_or, drop, length-append, length-drop, get_or-append}
use lib.Seq.{get_or-append-add, get_or-drop, ext_get_or}

-- e in front, and the former numbers after it
pub front-put : (e out out' : List ℕ) → length out' ≡ length out → length e ≤ length out
    → ((x : ℕ) → x < length e → get_or out' x 0 ≡ get_or e x 0) → ((x : ℕ) → length e ≤ x → get_or out' x 0 ≡ get_or out x 0)
    → out' ≡ e ++ drop (length e) out
front-put e out out' long room front behind =
    ext_get_or 0 out' (e ++ drop (length e) out)
    (omega (arith, length-append e (drop (length e) out), length-drop (length e) out))
    (λ x l. dite (dec_lt x (length e)) (λ h. front x h ∙ sym (get_or-append e (drop (length e) out) 0 x h)) (λ h. rest x (omega arith)))
  where
    rest : (x : ℕ) → length e ≤ x → get_or out' x 0 ≡ get_or (e ++ drop (length e) out) x 0
    rest x h =
        let y : length e + (x - length e) ≡ x = omega arith in
        behind x h ∙ ap (λ (z : ℕ). get_or out z 0) (sym y) ∙ sym (get_or-drop (length e) out (x - length e) 0)
        ∙ sym (get_or-append-add e (drop (length e) out) (x - length e) 0)
        ∙ ap (λ (z : ℕ). get_or (e ++ drop (length e) out) z 0) y
