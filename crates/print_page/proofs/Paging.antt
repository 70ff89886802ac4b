-- One page is filled line by line: what is in the buffer so far is the front of the text that was ahead. Assumes nothing.
use Prim.Native.Nat.{ℕ, suc, ◌+◌, ◌-◌, ◌≤◌, ◌<◌}
use native.Mathlib.Omega.{arith}
use mathlib.Core.Bool.{Bool, true, false, not}
use mathlib.Core.List.{List, [], ◌∷◌, ◌++◌, flatten, append_assoc}
use mathlib.Core.Path.{◌≡◌, refl, sym, ap, subst, ◌∙◌}
use lib.IntN.{ℤ}
use lib.ListN.{length, take, drop, length-take, length-drop}
use lib.Seq.{length-take-le, take-append-le, take-append-add}
use borrow.Author.Tests.{not-true, not-false}
use borrow.Rule.Slice.PartMut.{mid_of, post_of, put_mid, same_len_mid}
use Rattle.sizes.specs.Sizes.{most}
use Rattle.laws.proofs.Bools.{clash}
use Rattle.cfg.specs.Listing.{L}
use Rattle.packed.specs.Packed.{cfg_in}
use Rattle.print_begin.specs.declared.Due.{Due}
use Rattle.print_begin.specs.declared.Due.TheVariants.{Refusal, NoReading, Reading, Total, More, Nothing}
use Rattle.print_begin.specs.Due.{Ahead, DueSized, steps_left}
use Rattle.print_step.specs.Stepped.{head_line, behind, Stepped}
use Rattle.print_step.proofs.Lines.{lines_next}
use Rattle.print_page.specs.Page.{room, is_done, Rest, Paged}

-- ---- what is due

pub done_none : (d : Due) → is_done d ≡ true → d ≡ Nothing
done_none (Refusal n) e = clash cc
done_none NoReading e = clash cc
done_none (Reading s rules n i nodes) e = clash cc
done_none (Total n) e = clash cc
done_none More e = clash cc
done_none Nothing e = refl

-- the code's test whether something is due
module _ (d : Due) (b : Bool) (e : b ≡ is_done d) where
  pub some-due : not b ≡ true → is_done d ≡ false
  some-due f = sym e ∙ not-true b f

  pub none-due : not b ≡ false → is_done d ≡ true
  none-due f = sym e ∙ not-false b f

-- something is due as long as steps are left
pub some_left : (d : Due) → DueSized d → is_done d ≡ false → 0 < steps_left d
some_left (Refusal n) S e = omega arith
some_left NoReading S e = omega arith
some_left (Reading s rules n i nodes) S e = omega (arith, S.2)
some_left (Total n) S e = omega arith
some_left More S e = omega arith
some_left Nothing S e = clash cc

pub none_left : (d : Due) → is_done d ≡ true → steps_left d ≡ 0
none_left d e = ap steps_left (done_none d e)

pub few-left : (d : Due) → steps_left d ≤ suc most
few-left (Refusal n) = omega arith
few-left NoReading = omega arith
few-left (Reading s rules n i nodes) = omega arith
few-left (Total n) = omega arith
few-left More = omega arith
few-left Nothing = omega arith

-- lines that are known not to be empty have a first one
split : (x : List ℕ) (l lines : List (List ℕ)) → lines ≡ x ∷ l → lines ≡ head_line lines ∷ behind lines
split x l lines e = subst (λ (y : List (List ℕ)). y ≡ head_line y ∷ behind y) (sym e) refl

module _ (lengths : ℕ → ℤ) (p fits chart tables : List ℕ) where
  -- where something is due there is a line ahead
  due-line : (d : Due) (buf : List ℕ) (lines : List (List ℕ)) → is_done d ≡ false → Ahead lengths p fits chart tables buf d lines
      → lines ≡ head_line lines ∷ behind lines
  due-line (Refusal n) buf lines some a = split _ [] lines a
  due-line NoReading buf lines some a = split _ [] lines a
  due-line (Reading s rules n i nodes) buf lines some a =
      split _ _ lines (a.ahead ∙ lines_next lengths (L (cfg_in s p) a.input) i a.stands.there a.early)
  due-line (Total n) buf lines some a = split _ [] lines a
  due-line More buf lines some a = split _ [] lines a
  due-line Nothing buf lines some a = clash cc

  -- ---- the page so far

  -- the first `at` bytes of the output are the front of the text that was ahead when d₀ was due, and d is due then
  pub record Filled (d₀ : Due) (buf₀ buf out₀ out : List ℕ) (at : ℕ) (d : Due) : Type 0 where
    pub long : length buf ≡ length buf₀
    pub out_long : length out ≡ length out₀
    pub within : at ≤ length out
    pub sized : DueSized d
    pub fewer : steps_left d ≤ steps_left d₀
    pub printed : (lines : List (List ℕ)) → Ahead lengths p fits chart tables buf₀ d₀ lines
        → Rest lengths p fits chart tables buf d lines (take at out)

  pub filled_none : (d : Due) (buf out : List ℕ) → DueSized d → Filled d buf buf out out 0 d
  filled_none d buf out S = record {
    long = refl;
    out_long = refl;
    within = omega arith;
    sized = S;
    fewer = omega arith;
    printed = λ lines a. record { left = lines; ahead = a; text = refl };
  }

  module _ (d₀ : Due) (buf₀ buf out₀ out : List ℕ) (at : ℕ) (d : Due) (F : Filled d₀ buf₀ buf out₀ out at d) where
    module _ (some : is_done d ≡ false) (buf' part : List ℕ) (r : ℕ) (t : Due)
        (S : Stepped lengths p fits chart tables d buf buf' (mid_of at (length out - at) out) part r t) where
      -- the output with the part after the bytes so far
      abbrev whole : List ℕ
      whole = put_mid at (length out - at) out part

      front-taken : take (at + r) whole ≡ take at out ++ take r part
      front-taken =
          let front : length (take at out) ≡ at = length-take-le at out F.within in
          ap (λ (x : ℕ). take (x + r) whole) (sym front)
          ∙ take-append-add (take at out) (part ++ post_of at (length out - at) out) r
          ∙ ap (λ (x : List ℕ). take at out ++ x) (take-append-le r part (post_of at (length out - at) out) S.within)

      -- the line is written after the bytes so far
      line_after : (lines : List (List ℕ)) → Ahead lengths p fits chart tables buf₀ d₀ lines
          → Rest lengths p fits chart tables buf' t lines (take (at + r) whole)
      unfolding flatten
      line_after lines a =
          let R = F.printed lines a in
          record {
            left = behind R.left;
            ahead = S.ahead R.left R.ahead;
            text = R.text ∙ ap (λ (x : List (List ℕ)). take at out ++ flatten x) (due-line d buf R.left some R.ahead)
                ∙ ap (λ (x : List ℕ). take at out ++ (x ++ flatten (behind R.left))) (sym (S.printed R.left R.ahead))
                ∙ sym (append_assoc (take at out) (take r part) (flatten (behind R.left)))
                ∙ ap (λ (x : List ℕ). x ++ flatten (behind R.left)) (sym front-taken);
          }

      pub filled-step : Filled d₀ buf₀ buf' out₀ whole (at + r) t
      filled-step =
          let size : length whole ≡ length out = same_len_mid at (length out - at) out part S.out_long in
          let part-size : length part ≡ length out - at =
          S.out_long ∙ omega (arith, length-take (length out - at) (drop at out), length-drop at out) in
          record {
            long = S.long ∙ F.long;
            out_long = size ∙ F.out_long;
            within = omega (arith, S.within, F.within);
            sized = S.sized;
            fewer = omega (arith, S.fewer, F.fewer);
            printed = line_after;
          }

      pub filled-less : steps_left t < steps_left d
      filled-less = omega (arith, S.fewer, some_left d F.sized some)

      -- a further line might not fit then
      pub filled-full : room < at + r → Paged lengths p fits chart tables d₀ buf₀ buf' out₀ whole (at + r) t
      filled-full h =
          let G = filled-step in
          record {
            long = G.long;
            out_long = G.out_long;
            within = G.within;
            sized = G.sized;
            fewer = omega (arith, filled-less, F.fewer);
            full = λ e. h;
            printed = G.printed;
          }

    -- all lines are printed
    pub filled-done : is_done d ≡ true → Paged lengths p fits chart tables d₀ buf₀ buf out₀ out at d
    filled-done e = record {
      long = F.long;
      out_long = F.out_long;
      within = F.within;
      sized = F.sized;
      fewer = omega (arith, none_left d e);
      full = λ f. clash cc;
      printed = F.printed;
    }
