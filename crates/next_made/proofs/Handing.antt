-- What `next` hands out once the tables are made, by the tests that the code makes. Assumes nothing.
use Prim.Native.Nat.{ℕ, ◌*◌, ◌/◌, ◌≤◌, ◌<◌}
use mathlib.Core.List.{List, ◌++◌, Memᴰ}
use mathlib.Core.Path.{◌≡◌, ap, ◌∙◌}
use native.Mathlib.Omega.{arith}
use lib.ListN.{length, take, drop, length-take, get_or-append}
use lib.Seq.{ext_get_or, get_or-take}
use Rattle.cfg.specs.Listing.{L}
use Rattle.tree_first.specs.Descend.{InputGiven}
use Rattle.packed.specs.Packed.{cfg_in}
use Rattle.results.specs.Answer.{answered, handed, nothing}
use Rattle.results.specs.Enumerate.{after_in, handing_out}
use Rattle.first_made.specs.Written.{enumeration_of}
use Rattle.next_made.specs.Advanced.{StartsWith, Following, Advanced, RootNext}
use Rattle.next_made.specs.Made.{NextMade}

-- ---- the element after d, handed out

-- the front of the buffer, as it is copied out
front-numbers : (buf e : List ℕ) (k : ℕ) → length e ≡ k → k ≤ length buf → StartsWith buf e → take k buf ≡ e
front-numbers buf e k size room here =
    ext_get_or 0 (take k buf) e (omega (arith, length-take k buf))
    (λ x h. let l : x < k = omega (arith, length-take k buf) in rw get_or-take (here x (omega arith)))

module _ (l : List (List ℕ)) (d chart out : List ℕ) where
  pub none-handed : (buf : List ℕ) (m : ℕ) → Advanced l d buf m → m ≡ 0
      → enumeration_of (answered nothing) chart out ≡ handing_out (after_in d l) (answered nothing) chart out
  unfolding handing_out
  none-handed buf m A h = rw (A.none_left h)

  pub next-handed : (buf front : List ℕ) (m : ℕ) → Advanced l d buf m → (m ≡ 0 → ⊥) → 2 * m ≤ length buf → front ≡ take (2 * m) buf
      → enumeration_of (answered (handed m)) chart (front ++ drop (2 * m) out) ≡ handing_out (after_in d l) (answered nothing) chart out
  unfolding handing_out
  next-handed buf front m A h room C = go (A.next (omega arith))
    where
      go : Following l d buf m
          → enumeration_of (answered (handed m)) chart (front ++ drop (2 * m) out) ≡ handing_out (after_in d l) (answered nothing) chart out
      go F =
          let size = F.size in
          let half : m ≡ length F.numbers / 2 = omega arith in
          let put = C ∙ front-numbers buf F.numbers (2 * m) size room F.here in
          rw (F.after, put, ← size)
          (ap (λ (x : ℕ). enumeration_of (answered (handed x)) chart (F.numbers ++ drop (length F.numbers) out)) half)

-- ---- once the tables are made

-- the offered numbers, copied to the front of a buffer
pub copied-front : {front offered : List ℕ} (rest : List ℕ) → front ≡ offered → StartsWith (front ++ rest) offered
copied-front {front} {offered} rest e x h = rw e (get_or-append offered rest 0 x h)

-- the offered numbers are at the front of the buffer
module _ (p : List ℕ) (rules : ℕ) (fits chart tables : List ℕ) (s n : ℕ) (offered out buf₀ buf : List ℕ) (m : ℕ)
    (C : StartsWith buf₀ offered) (R : RootNext p rules fits chart tables s n buf₀ buf m) where
  advanced-offered : (w : List ℕ) → n ≡ length w → InputGiven p rules fits chart tables w → Memᴰ offered (L (cfg_in s p) w)
      → Advanced (L (cfg_in s p) w) offered buf m
  advanced-offered w to given i = R.exact w to given offered i C

  pub made_none : m ≡ 0 → NextMade p rules fits chart tables s n offered out out (answered nothing)
  made_none h = record {
    exact = λ w to given i. none-handed (L (cfg_in s p) w) offered chart out buf m (advanced-offered w to given i) h;
  }

  pub made-next : (front' : List ℕ) → (m ≡ 0 → ⊥) → 2 * m ≤ length buf → front' ≡ take (2 * m) buf
      → NextMade p rules fits chart tables s n offered out (front' ++ drop (2 * m) out) (answered (handed m))
  made-next front' h room D = record {
    exact = λ w to given i. next-handed (L (cfg_in s p) w) offered chart out buf front' m (advanced-offered w to given i) h room D;
  }
