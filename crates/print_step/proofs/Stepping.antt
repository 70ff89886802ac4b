-- One step that writes the line of a derivation: that line is the first one ahead, and the lines after it are ahead then. Assumes nothing.
use Prim.Native.Nat.{ℕ, suc, ◌+◌, ◌*◌, ◌-◌, ◌≤◌}
use mathlib.Core.List.{List, [], ◌∷◌}
use mathlib.Core.Path.{◌≡◌, sym, ap, subst, ◌∙◌}
use native.Mathlib.Numerals.{add-one}
use native.Mathlib.Omega.{arith}
use lib.IntN.{ℤ}
use lib.ListN.{length, get_or, take, length-take}
use lib.Seq.{get_or-take, ext_get_or}
use Rattle.sizes.specs.Sizes.{max_nodes, output_size}
use Rattle.cfg.specs.Listing.{L}
use Rattle.print_number.specs.Put.{Put}
use Rattle.next_made.specs.Advanced.{StartsWith}
use Rattle.packed.specs.Packed.{cfg_in}
use Rattle.results.specs.Measure.{tenths_of}
use Rattle.text.specs.Line.{line}
use Rattle.print_begin.specs.declared.Due.{Due}
use Rattle.print_begin.specs.declared.Due.TheVariants.{Reading}
use Rattle.print_begin.specs.Due.{lines_at, Holds, Ahead, DueSized, steps_left}
use Rattle.print_step.specs.Stepped.{line_in, head_line, behind, Followed, Stepped}
use Rattle.print_step.proofs.Lines.{lines_next}

put-within : (x : List ℕ) (r : ℕ) (out₀ out : List ℕ) → Put x 0 r out₀ out → r ≤ length out
put-within x r out₀ out P =
    let e : length (take r out) ≡ length x = ap length P.front in
    omega (arith, P.grown, length-take r out)

-- the numbers of the derivation in the buffer are its front
begins-front : (buf e : List ℕ) (m : ℕ) → length e ≡ 2 * m → m ≤ max_nodes → output_size ≤ length buf → StartsWith buf e
    → take (2 * m) buf ≡ e
begins-front buf e m size few room B =
    ext_get_or 0 (take (2 * m) buf) e (omega (arith, length-take (2 * m) buf))
    (λ x h. get_or-take (2 * m) buf x 0 (omega (arith, length-take (2 * m) buf)) ∙ B x (omega (arith, length-take (2 * m) buf)))

-- the lines ahead where d is due are those where its equal is due
left_at : (lengths : ℕ → ℤ) (p fits chart tables buf : List ℕ) (d e : Due) → d ≡ e → (lines : List (List ℕ))
    → Ahead lengths p fits chart tables buf d lines → Ahead lengths p fits chart tables buf e lines
left_at lengths p fits chart tables buf d e q lines a = subst (λ (y : Due). Ahead lengths p fits chart tables buf y lines) q a

module _ (lengths : ℕ → ℤ) (p fits chart tables : List ℕ) (d : Due) (s rules n i nodes : ℕ) (is : d ≡ Reading s rules n i nodes)
    (sized : DueSized d) (buf₀ buf : List ℕ) (room : output_size ≤ length buf₀) (t : Due)
    (F : Followed p rules fits chart tables s n i buf₀ buf t) where
  abbrev Held : List (List ℕ) → Type 0
  Held lines = Holds lengths p fits chart tables s rules n i nodes buf₀ lines

  held-line : (lines : List (List ℕ)) (H : Held lines)
      → lines ≡ line_in lengths (i + 1) nodes buf₀ ∷ lines_at lengths (L (cfg_in s p) H.input) (i + 1)
  held-line lines H =
      let l = L (cfg_in s p) H.input in
      let few = (subst DueSized is sized).3 in
      let e : get_or l i [] ≡ take (2 * nodes) buf₀ = sym (begins-front buf₀ (get_or l i []) nodes H.size few room H.stands.here) in
      H.ahead ∙ lines_next lengths l i H.stands.there H.early
      ∙ ap (λ (x : List ℕ). line (suc i) x (tenths_of lengths x) ∷ lines_at lengths l (suc i)) e
      ∙ ap (λ (x : ℕ). line_in lengths x nodes buf₀ ∷ lines_at lengths l x) (sym (add-one i))

  pub stepped-reading : (out₀ out : List ℕ) (r : ℕ) → Put (line_in lengths (i + 1) nodes buf₀) 0 r out₀ out
      → Stepped lengths p fits chart tables d buf₀ buf out₀ out r t
  stepped-reading out₀ out r P =
      let at : (lines : List (List ℕ)) → Ahead lengths p fits chart tables buf₀ d lines → Held lines =
      λ lines a. subst (λ (y : Due). Ahead lengths p fits chart tables buf₀ y lines) is a in
      record {
        long = F.long;
        out_long = P.long;
        within = put-within (line_in lengths (i + 1) nodes buf₀) r out₀ out P;
        sized = F.sized;
        fewer = subst (λ (y : Due). steps_left t ≤ steps_left y - 1) (sym is) (omega (arith, F.fewer));
        printed = λ lines a. P.front ∙ sym (ap head_line (held-line lines (at lines a)));
        ahead = λ lines a.
            let H = at lines a in
            subst (Ahead lengths p fits chart tables buf t) (sym (ap behind (held-line lines H)))
            (F.ahead lengths H.input H.long H.given H.stands);
      }
