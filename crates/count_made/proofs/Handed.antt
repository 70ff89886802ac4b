-- The first element of a list, once it is handed out. Assumes nothing.
use Prim.Native.Nat.{ℕ, ◌/◌}
use mathlib.Core.List.{List, [], ◌∷◌, ◌++◌}
use mathlib.Core.Path.{◌≡◌, ap, ◌∙◌}
use native.Mathlib.Omega.{arith}
use lib.ListN.{length, get_or, drop, get_or-append}
use Rattle.results.specs.Answer.{Answer, Handing, refused, answered, handed, nothing}
use Rattle.results.specs.Enumerate.{Enumeration, head_of, handing_out}
use Rattle.results.proofs.Answers.{answered-apart}
use Rattle.first_made.specs.Written.{enumeration_of}
use Rattle.count_made.specs.Made.{Stands}

-- m nodes were handed out: the first element is at the front of the buffer, and the rest is kept
pub record Handed (l : List (List ℕ)) (m : ℕ) (out₀ out : List ℕ) : Type 0 where
  pub stands : Stands l 0 out
  pub nodes : m ≡ length (get_or l 0 []) / 2
  pub left : out ≡ get_or l 0 [] ++ drop (length (get_or l 0 [])) out₀

abbrev nodes-of : Answer Handing → ℕ
nodes-of (refused n) = 0
nodes-of (answered (handed n)) = n
nodes-of (answered nothing) = 0

pub handed-first : (l : List (List ℕ)) (chart out₀ out : List ℕ) (m : ℕ)
    → enumeration_of (answered (handed m)) chart out ≡ handing_out (head_of l) (refused 13) chart out₀ → Handed l m out₀ out
unfolding handing_out head_of
handed-first [] chart out₀ out m e = absurd (answered-apart (ap (λ (x : Enumeration). x.answer) e))
handed-first (d ∷ l) chart out₀ out m e = record {
  stands = record {
    there = omega arith;
    here = λ y h. ap (λ (x : Enumeration). get_or x.output y 0) e ∙ get_or-append d (drop (length d) out₀) 0 y h;
  };
  nodes = ap (λ (x : Enumeration). nodes-of x.answer) e;
  left = ap (λ (x : Enumeration). x.output) e;
}
