-- Demand 1 for words, whatever is handed in: what it keeps, which refusal it gives, and what each refusal leaves. Assumes nothing.
use Prim.Native.Nat.{ℕ, ◌≤◌, ◌<◌}
use native.Mathlib.Decide.{dec_lt}
use native.Mathlib.Omega.{arith}
use mathlib.Core.List.{List, [], ◌∷◌, ◌++◌}
use mathlib.Core.Logic.{dite, ◌↔◌}
use mathlib.Core.Path.{◌≡◌, refl, sym, ap, ◌∙◌}
use lib.ListN.{length, drop, length-append, length-drop}
use lib.Seq.{drop_at}
use borrow.Author.Tests.{ltb-false}
use Rattle.sizes.specs.Sizes.{cells}
use Rattle.cfg.specs.Derivation.{Derivation, limit}
use Rattle.chart.specs.Column.{filled}
use Rattle.grammar.specs.View.{Dated, grammar_of}
use Rattle.results.specs.Answer.{Answer, refused, answered}
use Rattle.results.specs.Check.{input_checks}
use Rattle.results.specs.Ready.{Ready}
use Rattle.results.specs.Words.{Writing, texts_of, words_text, words_in, words_of}
use Rattle.results.proofs.Answers.{refused-inj, answered-apart}
use Rattle.results.proofs.Decide.{decide-either, decide-cases, decide-passed}
use Rattle.results.proofs.Passed.{ready→pass, pass→ready}
use Rattle.demands.specs.Cause.{Decided}
use Rattle.demands.specs.Kept.{ChartKept, bytes_written, OutputKept}
use Rattle.demands.specs.Order.{cause8, cause9, cause10, cause12, cause18, NoRefusal, WordsOrder}
use Rattle.demands.proofs.Decided.{decided}
use Rattle.demands.proofs.Kept.{chart-same, filled-kept, output-same}
use Rattle.demands.proofs.Order.{less, tells8, tells9}
use Rattle.demands.proofs.OrderOffered.{tells12}

-- a text of n bytes at the front of a buffer that it fits
text-kept : (n : ℕ) (text buffer : List ℕ) → length text ≡ n → length text ≤ length buffer
    → OutputKept n buffer (text ++ drop (length text) buffer)
text-kept n text buffer size fits = record {
  same_length = omega (arith, length-append text (drop (length text) buffer), length-drop (length text) buffer);
  rest = drop_at text (drop (length text) buffer) n size ∙ ap (λ (k : ℕ). drop k buffer) size;
}

module _ (g : Dated) (w e chart buffer : List ℕ) where
  -- what the call keeps of both
  abbrev Both : Writing → Type 0
  Both r = ChartKept chart r.chart × OutputKept (bytes_written r.answer) buffer r.buffer

  pub words-kept : Both (words_of g w e chart buffer)
  unfolding words_of words_in
  words-kept =
      decide-either _ _ Both _ (λ n. (chart-same chart, output-same 0 buffer))
      (λ p. let kept = filled-kept g w chart (pass→ready g w chart p) in
      decide-either _ _ Both _ (λ n. (kept, output-same 0 buffer))
      (λ q. (kept, text-kept _ (words_text g w e) buffer (omega arith) (ltb-false (length buffer) (length (words_text g w e)) q.1.0))))

  -- the refusals after the checks 8 to 10
  abbrev Later : Answer ℕ → Type 0
  Later = Decided (cause12 (Derivation (grammar_of g) limit w e) ∷ cause18 (words_text g w e) buffer ∷ []) refused NoRefusal

  later : Later (words_in (grammar_of g) (texts_of g.grammar) w e chart buffer).answer
  unfolding words_in
  later =
      decided _ _ (λ (x : Writing). x.answer) NoRefusal (λ n p. answered-apart p) _ _
      (tells12 g w e, (less (length buffer) (length (words_text g w e)) 18, tt))

  pub words-order : WordsOrder g w e chart buffer (words_of g w e chart buffer).answer
  unfolding words_of Decided
  words-order =
      decided _ _ (λ (x : Writing). x.answer) Later later (input_checks g w chart) (cause8 g.grammar ∷ cause9 w ∷ cause10 chart ∷ [])
      (tells8 g.grammar, (tells9 w, (less (length chart) cells 10, tt)))

  pub words-untouched : (n : ℕ) → n < 12 → (words_of g w e chart buffer).answer ≡ refused n
      → ((words_of g w e chart buffer).chart ≡ chart) × ((words_of g w e chart buffer).buffer ≡ buffer)
  unfolding words_of words_in
  words-untouched n low =
      decide-either _ _ (λ (x : Writing). x.answer ≡ refused n → (x.chart ≡ chart) × (x.buffer ≡ buffer)) _ (λ a p. (refl, refl))
      (λ p. decide-cases _ _ (λ (x : Writing). x.answer ≡ refused n → (x.chart ≡ chart) × (x.buffer ≡ buffer)) _
      ((λ f q. absurd (omega (arith, refused-inj q))), ((λ f q. absurd (omega (arith, refused-inj q))), tt))
      (λ q r. absurd (answered-apart r)))

  module _ (ready : Ready g w chart) where
    passed : words_of g w e chart buffer ≡ words_in (grammar_of g) (texts_of g.grammar) w e chart buffer
    unfolding words_of
    passed = decide-passed _ _ _ (ready→pass g w chart ready)

    pub words-filled : (words_of g w e chart buffer).chart ≡ filled (grammar_of g) w chart
    unfolding words_in
    words-filled =
        ap (λ (x : Writing). x.chart) passed
        ∙ decide-either _ _ (λ (x : Writing). x.chart ≡ filled (grammar_of g) w chart) _ (λ n. refl) (λ p. refl)

    D : Later (words_of g w e chart buffer).answer
    D = rw passed later

    pub words-twelve : ((words_of g w e chart buffer).answer ≡ refused 12) ↔ (Derivation (grammar_of g) limit w e → ⊥)
    unfolding Decided
    words-twelve = (
      λ p d. let after = D.1 (λ f. f d) in
          dite (dec_lt (length buffer) (length (words_text g w e)))
          (λ h. omega (arith, refused-inj (sym p ∙ after.0 h))) (λ h. after.1 h 12 p),
      λ f. D.0 f,
    )

    pub words-eighteen : Derivation (grammar_of g) limit w e
        → ((words_of g w e chart buffer).answer ≡ refused 18) ↔ (length buffer < length (words_text g w e))
    unfolding Decided
    words-eighteen d =
        let after = D.1 (λ f. f d) in (
          λ p. dite (dec_lt (length buffer) (length (words_text g w e))) (λ h. h) (λ h. absurd (after.1 h 18 p)),
          λ h. after.0 h,
        )
