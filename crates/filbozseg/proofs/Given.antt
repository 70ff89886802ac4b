-- What the exported functions return and leave, from what the functions that they call ensure. Assumes nothing.
use Prim.Native.Nat.{ℕ, ◌<◌}
use mathlib.Core.Bool.{Bool}
use mathlib.Core.List.{List}
use mathlib.Core.Path.{◌≡◌, refl, sym, ap, ◌∙◌, subst}
use lib.IntN.{ℤ}
use lib.ListN.{get_or}
use borrow.Author.Tests.{eq-eqb, ne_eqb}
use Rattle.c_grammar.specs.Fits.{Fits16}
use Rattle.c_grammar.specs.Flat.{grammar_in, flat_of}
use Rattle.c_grammar.proofs.Round.{read-write}
use Rattle.grammar.specs.declared.Grammar.{Grammar}
use Rattle.grammar.specs.View.{dated}
use Rattle.answers.specs.Answers.{outcome_of}
use Rattle.c_hand.specs.Hand.{row_of, state_of_row}
use Rattle.load.specs.declared.Loaded.{Loaded}
use Rattle.load.specs.Answer.{loading_of}
use Rattle.lookup.specs.declared.Part as Lookup
use Rattle.lookup.specs.Found.{part_of}
use Rattle.results.specs.Answer.{Answer, Handing, Figure}
use Rattle.results.specs.Check.{Checking, check_of}
use Rattle.results.specs.Enumerate.{Enumeration, first_of, next_of, count_of}
use Rattle.results.specs.Learn.{Learning, learn_of}
use Rattle.results.specs.Load.{Loading, load_of}
use Rattle.results.specs.Name.{Part}
use Rattle.results.specs.Measure.{length_of, same_build_of}
use Rattle.results.specs.Points.{set_point_of, return_to_of}
use Rattle.results.specs.Recognize.{State, Recognition, open_of, take_of}
use Rattle.results.specs.Words.{Writing, words_of}
use Rattle.c_answer.specs.Code.{code_of, left_of, verdict_code, row_left, flat_left, length_code, tenths_left, handing_code}
use Rattle.c_answer.specs.Code.{nodes_left, words_code, bytes_left, figure_code, figure_left, load_code, offset_left, fault_left}
use Rattle.filbozseg.specs.Calls.{Loads, Opens, Takes, Learns, Checks, Measures, Writes, Hands, Counts, Finds}
use Rattle.filbozseg.proofs.Fits.{load_fits}
use Rattle.filbozseg.proofs.Longer.{ReadBack, learnt-back}

-- ---- loading

module _ (book : List ℕ) (small : (i : ℕ) → get_or book i 0 < 256) (l : Loaded) (loads : loading_of l ≡ load_of book) where
  read_back : grammar_in (flat_of l.grammar) ≡ l.grammar
  read_back =
      read-write l.grammar (subst (λ (x : Loading). Fits16 x.grammar) (sym loads) (load_fits book small))

  -- the row of the grammar that was loaded
  row-loads : (found : ℕ)
      → Loads book found (load_code (outcome_of l.outcome)) (flat_of l.grammar) (offset_left (outcome_of l.outcome) found)
  unfolding flat_of
  row-loads found = record {
    returned = ap (λ (x : Loading). load_code x.answer) loads;
    grammar = ap (λ (x : Loading). flat_of x.grammar) loads;
    at = ap (λ (x : Loading). offset_left x.answer found) loads;
    read = read_back ∙ ap (λ (x : Loading). x.grammar) loads;
  }

  pub loads-of : (found code offset : ℕ) (row : List ℕ) → row ≡ flat_of l.grammar → code ≡ load_code (outcome_of l.outcome)
      → offset ≡ offset_left (outcome_of l.outcome) found → Loads book found code row offset
  loads-of found code offset row e f k = rw (e, f, k) (row-loads found)

-- ---- learning

abbrev learnt : Answer Bool → ℕ → Grammar → State → List ℕ → Learning
learnt a at g s chart = record { answer = a; offset = at; grammar = g; state = s; chart = chart }

-- the grammar g was read from the row f, and the state h from the row found
module _ (f found bytes chart₀ : List ℕ) (g : Grammar) (h : State) (read : g ≡ grammar_in f) (state : h ≡ state_of_row found)
    (small : (i : ℕ) → get_or bytes i 0 < 256) where
  pub learns-of : (a : Answer Bool) (at : ℕ) (g' : Grammar) (s : State) (before code offset : ℕ) (flat row chart : List ℕ)
      → learnt a at g' s chart ≡ learn_of g h bytes chart₀ → code ≡ code_of verdict_code a → offset ≡ fault_left at a before
      → flat ≡ left_of (flat_left g') a f → row ≡ left_of (row_left s) a found
      → Learns (learn_of (grammar_in f) (state_of_row found) bytes chart₀) f found before code flat row chart offset
  learns-of a at g' s before code offset flat row chart e returned o w v =
      rw (← read, ← state, ← e) (record { returned = returned; grammar = w; state = v; left = refl; at = o; read = back })
    where
      back : ((i : ℕ) → get_or f i 0 < 65536) → grammar_in flat ≡ g'
      back cells =
          ap grammar_in w
          ∙ subst (ReadBack f) (sym (e ∙ ap (λ (x : Grammar). learn_of x h bytes chart₀) read)) (learnt-back f h bytes chart₀ cells small)

-- ---- the name lookup

module _ (l : Lookup.Part) (p : Part) (is : part_of l ≡ p) (offset size : ℕ) where
  pub finds-none : l.length ≡ 0 → Finds p offset size 0 offset size
  finds-none e = let f = eq-eqb l.length 0 e in rw (← is) (record { returned = rw f; at = rw f; long = rw f })

  pub finds-part : (l.length ≡ 0 → ⊥) → Finds p offset size 1 l.offset l.length
  finds-part n = let f = ne_eqb l.length 0 n in rw (← is) (record { returned = rw f; at = rw f; long = rw f })

-- ---- the other calls, on the grammar g that was read from the row f

abbrev checked : {A : Type 0} → Answer A → List ℕ → Checking A
checked a chart = record { answer = a; chart = chart }

abbrev recognized : Answer Bool → State → List ℕ → Recognition
recognized a s chart = record { answer = a; state = s; chart = chart }

abbrev enumerated : Answer Handing → List ℕ → List ℕ → Enumeration
enumerated a chart out = record { answer = a; chart = chart; output = out }

abbrev texted : Answer ℕ → List ℕ → List ℕ → Writing
texted a chart buffer = record { answer = a; chart = chart; buffer = buffer }

module _ (f : List ℕ) (g : Grammar) (read : g ≡ grammar_in f) (chart₀ chart : List ℕ) (code : ℕ) where
  module _ (a : Answer Bool) (returned : code ≡ code_of verdict_code a) where
    pub opens_of : (y : ℕ) (s : State) (row : List ℕ) → recognized a s chart ≡ open_of (dated g y) chart₀ → row ≡ row_of s
        → Opens (open_of (dated (grammar_in f) y) chart₀) code row chart
    opens_of y s row e w = rw (← read, ← e) (record { returned = returned; state = w; left = refl })

    -- taking, setting and returning read a state too
    pub takes_of : (byte : ℕ) (found : List ℕ) (h s : State) (row : List ℕ) → h ≡ state_of_row found
        → recognized a s chart ≡ take_of g h byte chart₀ → row ≡ left_of (row_left s) a found
        → Takes (take_of (grammar_in f) (state_of_row found) byte chart₀) found code row chart
    takes_of byte found h s row state e w = rw (← read, ← state, ← e) (record { returned = returned; state = w; left = refl })

    pub sets_of : (name : ℕ) (found : List ℕ) (h s : State) (row : List ℕ) → h ≡ state_of_row found
        → recognized a s chart ≡ set_point_of g h name chart₀ → row ≡ left_of (row_left s) a found
        → Takes (set_point_of (grammar_in f) (state_of_row found) name chart₀) found code row chart
    sets_of name found h s row state e w = rw (← read, ← state, ← e) (record { returned = returned; state = w; left = refl })

    pub returns_of : (name : ℕ) (found : List ℕ) (h s : State) (row : List ℕ) → h ≡ state_of_row found
        → recognized a s chart ≡ return_to_of g h name chart₀ → row ≡ left_of (row_left s) a found
        → Takes (return_to_of (grammar_in f) (state_of_row found) name chart₀) found code row chart
    returns_of name found h s row state e w = rw (← read, ← state, ← e) (record { returned = returned; state = w; left = refl })

    pub checks-of : (y : ℕ) (w d : List ℕ) → checked a chart ≡ check_of (dated g y) w d chart₀
        → Checks (check_of (dated (grammar_in f) y) w d chart₀) code chart
    checks-of y w d e = rw (← read, ← e) (record { returned = returned; left = refl })

    pub checks-build-of : (y : ℕ) (w d d' : List ℕ) → checked a chart ≡ same_build_of (dated g y) w d d' chart₀
        → Checks (same_build_of (dated (grammar_in f) y) w d d' chart₀) code chart
    checks-build-of y w d d' e = rw (← read, ← e) (record { returned = returned; left = refl })

  pub measures-of : (a : Answer ℤ) (y : ℕ) (w d : List ℕ) (found tenths : ℤ) → checked a chart ≡ length_of (dated g y) w d chart₀
      → code ≡ code_of length_code a
      → tenths ≡ left_of tenths_left a found → Measures (length_of (dated (grammar_in f) y) w d chart₀) found code chart tenths
  measures-of a y w d found tenths e c t = rw (← read, ← e) (record { returned = c; left = refl; measured = t })

  pub counts_of : (a : Answer Figure) (y : ℕ) (w : List ℕ) (found figure : ℕ) → checked a chart ≡ count_of (dated g y) w chart₀
      → code ≡ code_of figure_code a
      → figure ≡ left_of figure_left a found → Counts (count_of (dated (grammar_in f) y) w chart₀) found code chart figure
  counts_of a y w found figure e c t = rw (← read, ← e) (record { returned = c; left = refl; counted = t })

  pub writes-of : (a : Answer ℕ) (y : ℕ) (w d buffer₀ buffer : List ℕ) (found bytes : ℕ)
      → texted a chart buffer ≡ words_of (dated g y) w d chart₀ buffer₀ → code ≡ code_of words_code a → bytes ≡ left_of bytes_left a found
      → Writes (words_of (dated (grammar_in f) y) w d chart₀ buffer₀) found code chart buffer bytes
  writes-of a y w d buffer₀ buffer found bytes e c t =
      rw (← read, ← e) (record { returned = c; left = refl; written = refl; counted = t })

  module _ (a : Answer Handing) (returned : code ≡ code_of handing_code a) (found nodes : ℕ) (counted : nodes ≡ left_of nodes_left a found)
      (y : ℕ) (w out₀ out : List ℕ) where
    pub hands-first-of : enumerated a chart out ≡ first_of (dated g y) w chart₀ out₀
        → Hands (first_of (dated (grammar_in f) y) w chart₀ out₀) found code chart out nodes
    hands-first-of e = rw (← read, ← e) (record { returned = returned; left = refl; written = refl; counted = counted })

    pub hands-next-of : (d : List ℕ) → enumerated a chart out ≡ next_of (dated g y) w d chart₀ out₀
        → Hands (next_of (dated (grammar_in f) y) w d chart₀ out₀) found code chart out nodes
    hands-next-of d e = rw (← read, ← e) (record { returned = returned; left = refl; written = refl; counted = counted })
