-- The final theorems over the definitions, each proved by citation. The demands are the customer's three (README gives them in short); the
-- other sources are sections of document 01, his scope (docs/REFERENCE.md says what it fixes). The definitions are in `cfg/specs`,
-- `theory_listing/specs`, `theory_embedding/specs`, `chart/specs`, `theory_clearing/specs`, `grammar/specs`, `theory_tidying/specs`,
-- `results/specs`, `theory_points/specs`, `load_nullable/specs`, `text/specs`, `demands/specs`, `print_begin/specs`, `print_page/specs` and
-- `theorems/specs`, and none is in a `proofs/` folder. A grammar of the type `Dated` has the year of the input with it (document 02, U9).
--
--   statement                         says                                                            source
--   starred-table                     the starred plates, from book bytes to answers                   Plates from the drawer
--   requests-table                    plates for the requests, from book bytes to answers              document 02
--   range-fits                        a byte fits a range exactly if it is from low to high            document 02, U1
--   search-exact, search-few          the search finds exactly the blank kinds; how many passes        document 02, U3
--   search-table                      books for the search, from book bytes to set and passes          document 02, U3
--   depth-exact, depth-before         the depth is that of the highest of the lowest empty trees       document 02, U13
--   year-rules, year-embeds           a year's rules; their grammar is inside the whole one            document 02, U9
--   year-readings, year-list          its readings are the whole one's, without those of other rules   document 02, U9
--   year-any, year-undated            where all rules hold in all years, all years have one grammar    document 02, U9
--   tenths-nearest                    a length is the nearest tenth to its sum, the even one at a half document 02, U5
--   builds-before, built-before       same build says yes only where it did before                     document 02, U7
--   words_same                        texts are equal exactly if inputs and readings are               document 02, U4
--   words_size                        no text has more than 5,888 bytes                                document 02, U4
--   name-recorded, name-part          the lookup gives the record's name; when it is empty             document 02, U4
--   list-exact, list-rising           L holds exactly the readings, each once, in rising order         Trees and readings; The walk
--   load-demand, load-order           a book is loaded or refused at its first fault; what is left     demand 1; Refusals
--   open-, take-, .., next-demand     what is written, the first refusal that applies, what it leaves  demand 1
--   ..-twelve, ..-thirteen            refusals 12 and 13 exactly where they apply                      demand 1; Refusals
--   words-demand, .., words-eighteen  the same for the call words, with refusals 12 and 18             demand 1; document 02, U4
--   take-any                          one mark taken over any sheet and any hand                       Plate in hand and sheet
--   set-demand, return-demand         a point set, or returned to, over any sheet and any hand           document 02, U6; demand 1
--   learn-demand, learn-order         a rule is learnt, or refused at its first fault; what is left     document 02, U8; demand 1
--   learn-valid, learn-old            the longer grammar passes check 8, has no rubbish and the old rules document 02, U8
--   learn-readings, -list, -tree      old readings are new ones; the old L is the new one, filtered    document 02, U8
--   points-history                    any list of taking, setting and returning goes as the machine    document 02, U6
--   learn-history                     the same with learning: as opened with the longer book           document 02, U8
--   demand-2                          complete after each mark exactly if the marks have a tree        demand 2, first sentence
--   check-yes, check-no               an offered reading is accepted exactly if it is one              demand 2, second sentence
--   demand-3, tree-decided            any list of calls goes as the walk                               demand 3, first sentence; The walk
--   first-then-next, ..-said          first, then next, hand out L and end with "none"                 demand 3, second sentence
--   count-exact, count-more           N up to 4,096, "more" exactly above                              demand 3, third sentence
--   no-derivation-exact, ..-larger    "no reading" exactly without a tree; 13 exactly with larger ones demand 3, last sentence
--   book-trees                        from book bytes to trees: first, then next, hand out every one   demands 1 and 3; The walk
--   listing-of-T                      the three lines of T with the plate `A`, byte for byte           Listing program; document 02, U5
--   text-depth                        the nullable depth of a grammar does not change an input's text  Listing program
--   text-front                        8,192, 3 and 65 bytes of book, year and plate decide the text    Listing program; document 02, U9
--   pages-text, pages-few             the pages, from the first to the last, are the text; how many    Listing program
--
-- That the code gives and leaves what these definitions say is each exported function's contract, an equality without a condition:
--
--   load/src/lib.rt        load         load_of
--   lookup/src/lib.rt      name         name_of
--   recognizer/src/lib.rt  open         open_of
--   recognizer/src/lib.rt  take         take_of
--   points/src/lib.rt      set_point    set_point_of
--   points/src/lib.rt      return_to    return_to_of
--   learn/src/lib.rt       learn        learn_of
--   checker/src/lib.rt     check        check_of
--   checker/src/lib.rt     length       length_of
--   words/src/lib.rt       words        words_of
--   checker/src/lib.rt     same_build   same_build_of
--   first/src/lib.rt       first        first_of
--   next/src/lib.rt        next         next_of
--   count/src/lib.rt       count        count_of
--
-- The listing program reads its files and calls `begin` of print_begin/src/begin.rt and `fill_page` of print_page/src/lib.rt; their
-- contracts are the premises of pages-text. It hands each page to `write` of print_write/src/lib.rt, which requires that these bytes come
-- next in the text. `list` of list/src/main.rt promises that none is left out, unless a write fails. So each byte that is handed to the
-- write, and their order, is proved; that the write writes it is only tested.
--
-- `tools/trace-check` reads the table above and fails if a call lacks its equality, or if a call or a C function has a `requires`; it also
-- checks the table of the calls in docs/TOUR.md against this file. With the last three equalities, demand-3 is a claim about the code's
-- first, next and count.
-- Assumes nothing.
use Prim.Native.Nat.{ℕ, suc, ◌+◌, ◌-◌, ◌≤◌, ◌<◌}
use mathlib.Core.Bool.{true, false}
use mathlib.Core.List.{List, [], ◌∷◌, ◌++◌, Memᴰ, map, flatten}
use mathlib.Core.Logic.{◌↔◌, ◌⊎◌}
use mathlib.Core.Option.{some}
use mathlib.Core.Path.{◌≡◌, refl}
use lib.IntN.{ℤ}
use lib.ListN.{length, get_or, take, replicate}
use Rattle.sizes.specs.Sizes.{max_input, cells, output_size}
use Rattle.sets.specs.Set.{has, card}
use Rattle.cfg.specs.Grammar.{Cfg, Rule, rule, range, fits}
use Rattle.cfg.specs.Tree.{HasTree}
use Rattle.cfg.specs.Derivation.{Derivation, Rising, limit}
use Rattle.cfg.specs.Listing.{L}
use Rattle.cfg.specs.Nullable.{Nullable, Depth, depth_of, ExactDepth}
use Rattle.theory_listing.specs.Budget.{filter}
use Rattle.theory_embedding.specs.Embedding.{Embeds, uses_only}
use Rattle.theory_tidying.specs.Tidying.{Shaped}
use Rattle.theory_points.specs.Machine.{Op, NoLearning}
use Rattle.grammar.specs.declared.Grammar.{Grammar}
use Rattle.grammar.specs.Setters.{last_year, set_depth}
use Rattle.grammar.specs.Valid.{valid_grammar}
use Rattle.grammar.specs.View.{whole_of, Dated, dated, grammar_of}
use Rattle.grammar.specs.Years.{InForce, all_years}
use Rattle.results.specs.Answer.{refused, answered, nothing, counted, more, loaded}
use Rattle.results.specs.Load.{step, load_of}
use Rattle.results.specs.Name.{name_part, name_of, recorded_name}
use Rattle.results.specs.Undated.{Undated}
use Rattle.results.specs.Recognize.{State, points_within, open_of, take_of, fed}
use Rattle.results.specs.Points.{set_point_of, return_to_of}
use Rattle.results.specs.Learn.{learn_step, learn_of}
use Rattle.theory_points.specs.Operations.{held_after, ran}
use Rattle.results.specs.Check.{check_of}
use Rattle.results.specs.Measure.{sum, tenths_of, NearestTenth, length_of, same_built, same_build_of}
use Rattle.results.specs.Words.{words_text, words_of}
use Rattle.results.specs.Before.{same_bag_built, same_bag_build_of}
use Rattle.results.specs.Enumerate.{first_of, next_of, count_of}
use Rattle.results.specs.Walk.{hands, none_left, handed_out}
use Rattle.results.specs.History.{Made, first, AllAllowed, history}
use Rattle.results.specs.Demand3.{Demand3, next_calls, Larger}
use Rattle.results.specs.Starred.{Starred}
use Rattle.results.specs.Requests.{Requested}
use Rattle.results.specs.Drawer.{T, As}
use Rattle.load_nullable.specs.Nullable.{search_of}
use Rattle.load_nullable.specs.Table.{SearchTable}
use Rattle.text.specs.Text.{input_text, text_of}
use Rattle.text.specs.Sample.{listing_of_t}
use Rattle.text.specs.Front.{book_front, year_front, plate_front}
use Rattle.check_length.specs.Measure.{lengths_in}
use Rattle.print_begin.specs.declared.Due.{Due}
use Rattle.print_begin.specs.declared.Due.TheVariants.{Nothing}
use Rattle.print_begin.specs.Begun.{BookBegun}
use Rattle.print_page.specs.Pages.{Pages}
use Rattle.demands.specs.Demand1.{OpenDemand, TakeDemand, InputDemand, OutputDemand, WordsDemand}
use Rattle.results.specs.Ready.{Ready, ReadyOut}
use Rattle.demands.specs.OrderAfter.{OfferedOrder, TreesOrder}
use Rattle.demands.specs.LoadOrder.{CommandOrder}
use Rattle.demands.specs.NamePart.{NamePart}
use Rattle.demands.specs.LoadDemand.{ZeroBehind, LoadDemand}
use Rattle.demands.specs.Order.{NoRefusal}
use Rattle.demands.specs.Taken.{Taken}
use Rattle.demands.specs.Recognized.{Recognized}
use Rattle.demands.specs.Points.{SetDemand, ReturnDemand}
use Rattle.demands.specs.LearnOrder.{LearnCommandOrder}
use Rattle.demands.specs.Learn.{LearnDemand, Longer}
use Rattle.demands.specs.PointsHistory.{PointsHistory, LearnHistory}
use Rattle.theorems.specs.EveryTree.{EveryTree}
use Rattle.cfg.proofs.Fits as Fits
use Rattle.theory_listing.proofs.Exact as Exact
use Rattle.theory_shrinking.proofs.Depth as Depth
use Rattle.theory_embedding.proofs.Derivations as Embedded
use Rattle.theory_embedding.proofs.Listed as Inside
use Rattle.grammar.proofs.Bounds.{whole-bounded}
use Rattle.grammar.proofs.Years as Years
use Rattle.results.proofs.Loading.Named as Named
use Rattle.results.proofs.Loading.Undated as Undated
use Rattle.results.proofs.Starred as Starred
use Rattle.results.proofs.Requests as Requests
use Rattle.results.proofs.Rounding as Rounding
use Rattle.results.proofs.SameBuild as SameBuild
use Rattle.load_nullable.proofs.Exact as Search
use Rattle.load_nullable.proofs.Table as Searches
use Rattle.results.proofs.Demand3.Walk as Walk
use Rattle.results.proofs.Demand3.Handed as Handed
use Rattle.results.proofs.Demand3.Consequences as Consequences
use Rattle.text.proofs.Sample as Sample
use Rattle.text.proofs.Depth as TextDepth
use Rattle.text.proofs.Front as Front
use Rattle.print_page.proofs.Printed as Printed
use Rattle.demands.proofs.Demand1 as Demand1
use Rattle.demands.proofs.OrderOffered as Offered
use Rattle.demands.proofs.Words as WordsOrder
use Rattle.demands.proofs.OrderTrees as Trees
use Rattle.demands.proofs.LoadOrder as LoadOrder
use Rattle.demands.proofs.LoadDemand as Load
use Rattle.demands.proofs.NamePart as NamePart
use Rattle.demands.proofs.Check as Check
use Rattle.demands.proofs.Taken as Take
use Rattle.demands.proofs.Recognized as Fed
use Rattle.demands.proofs.Points as Points
use Rattle.demands.proofs.LearnOrder as LearnOrder
use Rattle.demands.proofs.Learn as Learn
use Rattle.demands.proofs.LearnValid as LearnValid
use Rattle.demands.proofs.PointsHistory as Machine
use Rattle.demands.proofs.LearnHistory as Learnt
use Rattle.theorems.proofs.EveryTree as EveryTree
use Rattle.theorems.proofs.Words as Words

-- THE STARRED TABLE
pub starred-table : Starred
starred-table = Starred.starred

-- THE TABLE OF THE REQUESTS
pub requests-table : Requested
requests-table = Requests.requested

-- THE RANGES: a byte fits a range exactly if it is from its low to its high end, both included
pub range-fits : (low high m : ℕ) → (fits (range low high) m ≡ true) ↔ ((low ≤ m) × (m ≤ high))
range-fits low high m = Fits.range-fits low high m

-- THE REQUEST U3, for every grammar that check 8 lets through: the search finds exactly the nullable nonterminals (blank kinds)
pub search-exact : (g : Grammar) → valid_grammar g ≡ true → (k : ℕ) → (has k (search_of g).set ≡ true) ↔ Nullable (whole_of g) k
search-exact g valid k = ((Search.searched g valid).exact.sound k, (Search.searched g valid).exact.complete k)

-- its passes are at most one more than these
pub search-few : (g : Grammar) → valid_grammar g ≡ true → (search_of g).passes ≤ card (search_of g).set + 1
search-few g valid = (Search.searched g valid).few

-- books for the search, from their bytes to the set that is found and the number of passes
pub search-table : SearchTable
search-table = Searches.search-table

-- THE REQUEST U13, for every grammar that check 8 lets through: the depth of the whole grammar is the greatest, over the nullable
-- nonterminals (blank kinds), of the height of the lowest empty tree, and 0 if there is none
pub depth-exact : (g : Grammar) → valid_grammar g ≡ true → ExactDepth (whole_of g) (depth_of (whole_of g))
depth-exact g valid = Depth.depth-exact (whole_of g) (whole-bounded g valid)

-- so what document 01 says of it holds
pub depth-before : (g : Grammar) → valid_grammar g ≡ true → Depth (whole_of g) (depth_of (whole_of g))
depth-before g valid = Depth.depth-before (whole_of g) (whole-bounded g valid)

-- THE REQUEST U5: the length of a row is t tenths exactly if ten times t differs from the sum of its rule lengths by at most 5, and t is
-- even where it differs by 5
pub tenths-nearest : (lengths : ℕ → ℤ) (e : List ℕ) (t : ℤ) → (tenths_of lengths e ≡ t) ↔ NearestTenth (sum lengths e) t
tenths-nearest = Rounding.tenths-nearest

-- THE REQUEST U7: where same build says yes, it also did before, since rules that are the same in preorder are the same bag
pub builds-before : (g : Dated) (w a b chart : List ℕ) → (same_build_of g w a b chart).answer ≡ answered true
    → (same_bag_build_of g w a b chart).answer ≡ answered true
builds-before = SameBuild.builds-before

-- the same over any two rows of numbers
pub built-before : (a b : List ℕ) → same_built a b ≡ true → same_bag_built a b ≡ true
built-before = SameBuild.built-before

-- THE REQUEST U9, for every grammar and every year: a number has a rule exactly if its record is used and its span includes the year
pub year-rules : (g : Grammar) (y r : ℕ) → ((ρ : Rule) × (rule (grammar_of (dated g y)) r ≡ some ρ)) ↔ InForce g y r
year-rules g y r = (λ p. Years.rule-in-force g y r p.0 p.1, Years.in-force-rule g y r)

-- the grammar of the year is inside the whole one: one start symbol, and each of its rules is the rule of this number there
pub year-embeds : (g : Grammar) (y : ℕ) → Embeds (λ r. r) (grammar_of (dated g y)) (whole_of g)
year-embeds g y = record { start = refl; rules = Years.rule-whole g y }

-- so its derivations (readings) are derivations of the whole grammar
pub year-readings : (g : Grammar) (y : ℕ) (w e : List ℕ) → Derivation (grammar_of (dated g y)) limit w e → Derivation (whole_of g) limit w e
year-readings g y = Embedded.derivation-same (grammar_of (dated g y)) (whole_of g) (year-embeds g y) limit

-- and its list L is that of the whole grammar, without the derivations that use a rule out of force
pub year-list : (g : Grammar) (y : ℕ) (w : List ℕ)
    → filter (uses_only (grammar_of (dated g y))) (L (whole_of g) w) ≡ L (grammar_of (dated g y)) w
year-list g y = Inside.derivations-own (grammar_of (dated g y)) (whole_of g) (year-embeds g y) limit

-- if all used rules hold in all years, then every year has one grammar, the whole one
pub year-any : (g : Grammar) → all_years g ≡ true → (y : ℕ) → y ≤ last_year → grammar_of (dated g y) ≡ whole_of g
year-any = Years.year-any

-- so has every book without the command 21
pub year-undated : (bytes : List ℕ) → Undated bytes → (y : ℕ) → y ≤ last_year
    → grammar_of (dated (load_of bytes).grammar y) ≡ whole_of (load_of bytes).grammar
year-undated bytes undated = year-any (load_of bytes).grammar (Undated.undated-always bytes undated)

-- THE REQUEST U4, for every grammar that check 8 lets through and any two years: the texts of two derivations (readings) are equal exactly
-- if their inputs and the derivations are
pub words_same : (g : Grammar) → valid_grammar g ≡ true → (y y' : ℕ) (w w' e e' : List ℕ)
    → Derivation (grammar_of (dated g y)) limit w e → Derivation (grammar_of (dated g y')) limit w' e'
    → (words_text (dated g y) w e ≡ words_text (dated g y') w' e') ↔ ((w ≡ w') × (e ≡ e'))
words_same = Words.words_same

-- a buffer of 5,888 bytes has room for every text
pub words_size : (g : Grammar) → valid_grammar g ≡ true → (y : ℕ) (w e : List ℕ) → length w ≤ max_input
    → Derivation (grammar_of (dated g y)) limit w e → length (words_text (dated g y) w e) ≤ 5888
words_size = Words.words_size

-- the name lookup: for a book that loads, it gives back the name in the rule's record, without its filling
pub name-recorded : (bytes : List ℕ) (r : ℕ) → (load_of bytes).answer ≡ loaded → name_of bytes r ≡ recorded_name (load_of bytes).grammar r
name-recorded = Named.name-recorded

-- for any bytes: the part is after the 60 at which loading named the rule. It is empty exactly if the bytes do not load, the number is not
-- below the count, or the rule has no name
pub name-part : (bytes : List ℕ) (r : ℕ) → NamePart bytes r (name_part bytes r)
name-part = NamePart.name-part

-- THE LIST L: a row is in it exactly if it is a derivation (reading) of the input, and it is strictly rising
pub list-exact : (G : Cfg) (w e : List ℕ) → Memᴰ e (L G w) ↔ Derivation G limit w e
list-exact G w e = (Exact.listed→derivation G limit w e, Exact.derivation→listed G limit w e)

pub list-rising : (G : Cfg) (w : List ℕ) → Rising (L G w)
list-rising G w = Exact.derivations-rising G limit w

-- DEMAND 1 for loading, for every row of bytes: it is refused at the first fault from the left, with a number from 1 to 7, 16 or 21, its
-- offset and the grammar of zeros; or it is read to its end. Then the grammar has its nullable depth and passes check 8, so that demands 2
-- and 3 are about it, and what it does not use is zeros
pub load-demand : (bytes : List ℕ) → LoadDemand bytes (load_of bytes)
load-demand = Load.load-demand

-- at each command the first fault that applies decides
pub load-order : (bytes : List ℕ) (at : ℕ) (g : Grammar) → CommandOrder bytes at (get_or bytes at 0) g (step bytes at g)
load-order = LoadOrder.step-order

-- DEMAND 1, for every input of every other call: of a chart only the first 4,225 cells change, and of an output only the front, where a
-- derivation is written; the refusal given is the first that applies; and what each refusal leaves
pub open-demand : (g : Dated) (chart : List ℕ) → OpenDemand g chart (open_of g chart)
open-demand = Demand1.open-demand

pub take-demand : (g : Grammar) (h : State) (m : ℕ) (chart : List ℕ) → TakeDemand g h chart (take_of g h m chart)
take-demand = Demand1.take-demand

pub check-demand : (g : Dated) (w e chart : List ℕ) → InputDemand g w chart (check_of g w e chart)
check-demand = Demand1.check-demand

pub length-demand : (g : Dated) (w e chart : List ℕ) → InputDemand g w chart (length_of g w e chart)
length-demand = Demand1.length-demand

pub words-demand : (g : Dated) (w e chart buffer : List ℕ) → WordsDemand g w e chart buffer (words_of g w e chart buffer)
words-demand = Demand1.words-demand

pub same-build-demand : (g : Dated) (w a b chart : List ℕ) → InputDemand g w chart (same_build_of g w a b chart)
same-build-demand = Demand1.same-build-demand

pub count-demand : (g : Dated) (w chart : List ℕ) → InputDemand g w chart (count_of g w chart)
count-demand = Demand1.count-demand

pub first-demand : (g : Dated) (w chart out : List ℕ) → OutputDemand g w chart out (first_of g w chart out)
first-demand = Demand1.first-demand

pub next-demand : (g : Dated) (w e chart out : List ℕ) → OutputDemand g w chart out (next_of g w e chart out)
next-demand = Demand1.next-demand

-- refusal 12 is given exactly if what is offered is no derivation, 13 exactly if there are trees and no derivation
pub length-twelve : (g : Dated) (w chart e : List ℕ)
    → OfferedOrder (Ready g w chart) (Derivation (grammar_of g) limit w e) (length_of g w e chart).answer
length-twelve = Offered.length-twelve

pub words-twelve : (g : Dated) (w e chart buffer : List ℕ) → Ready g w chart
    → ((words_of g w e chart buffer).answer ≡ refused 12) ↔ (Derivation (grammar_of g) limit w e → ⊥)
words-twelve = WordsOrder.words-twelve

-- and 18 of words exactly if the text of a derivation is longer than the buffer
pub words-eighteen : (g : Dated) (w e chart buffer : List ℕ) → Ready g w chart → Derivation (grammar_of g) limit w e
    → ((words_of g w e chart buffer).answer ≡ refused 18) ↔ (length buffer < length (words_text g w e))
words-eighteen = WordsOrder.words-eighteen

pub same-build-twelve : (g : Dated) (w chart a b : List ℕ)
    → OfferedOrder (Ready g w chart) (Derivation (grammar_of g) limit w a × Derivation (grammar_of g) limit w b)
    (same_build_of g w a b chart).answer
same-build-twelve = Offered.same-build-twelve

pub next-twelve : (g : Dated) (w chart out e : List ℕ)
    → OfferedOrder (ReadyOut g w chart out) (Derivation (grammar_of g) limit w e) (next_of g w e chart out).answer
next-twelve = Offered.next-twelve

pub first-thirteen : (g : Dated) (w chart out : List ℕ)
    → TreesOrder (ReadyOut g w chart out) (grammar_of g) w (first_of g w chart out).answer
first-thirteen = Trees.first-thirteen

pub count-thirteen : (g : Dated) (w chart : List ℕ) → TreesOrder (Ready g w chart) (grammar_of g) w (count_of g w chart).answer
count-thirteen = Trees.count-thirteen

-- TAKING over any chart and any state of 64 bytes without a set point past its count: the state after it; of the chart only column n is
-- written, as the least one that is closed under the rules with earlier columns as found; "complete" is the start symbol's bit
pub take-any : (g : Grammar) (h : State) (m : ℕ) (found : List ℕ) → valid_grammar g ≡ true → length h.bytes ≡ max_input
    → points_within h.count h.points ≡ true → h.count < max_input
    → cells ≤ length found → Taken (grammar_of (dated g h.year)) h m found (h.count + 1) (take_of g h m found)
take-any = Take.take-any

-- THE POINTS of request U6. Demand 1 for setting one and returning to it, over any chart and any state: setting writes no cell; a return
-- writes zero into the columns after the point, up to 64, and nothing else; the refusal given is the first that applies; and what each
-- leaves
pub set-demand : (g : Grammar) (h : State) (k : ℕ) (chart : List ℕ) → SetDemand g h k chart (set_point_of g h k chart)
set-demand = Points.set-demand

pub return-demand : (g : Grammar) (h : State) (k : ℕ) (chart : List ℕ) → ReturnDemand g h k chart (return_to_of g h k chart)
return-demand = Points.return-demand

-- THE RULE LEARNT of request U8. Demand 1 for learning, over any chart and any state: the first refusal that applies, with its offset; what
-- it leaves; and that a rule which is learnt leaves the chart as opening and taking with the longer grammar does
pub learn-demand : (g : Grammar) (h : State) (bytes chart : List ℕ) → LearnDemand g h bytes chart (learn_of g h bytes chart)
learn-demand = Learn.learn-demand

-- at each command within the bytes the refusal given is the first that applies
pub learn-order : (bytes : List ℕ) (at : ℕ) (g : Grammar) → at < length bytes
    → LearnCommandOrder bytes at (get_or bytes at 0) g (learn_step bytes at g)
learn-order = LearnOrder.learn-step-order

-- the longer grammar, where the lists of the old one are as long as the arrays of a grammar in the code: check 8 lets it through, and what
-- is unused in it is zero
pub learn-valid : (g : Grammar) (h : State) (bytes chart : List ℕ) → Shaped g → NoRefusal (learn_of g h bytes chart).answer
    → (valid_grammar (learn_of g h bytes chart).grammar ≡ true) × ZeroBehind (learn_of g h bytes chart).grammar
learn-valid = LearnValid.learn-valid

-- it has one rule more, and the old rules under their numbers, of the whole grammar and in every year
pub learn-old : (g : Grammar) (h : State) (bytes chart : List ℕ) → Shaped g → NoRefusal (learn_of g h bytes chart).answer
    → Longer g (learn_of g h bytes chart).grammar
learn-old = LearnValid.learn-old

-- so each derivation of every input in every year is one of the longer grammar
pub learn-readings : (g g' : Grammar) → Longer g g' → (y : ℕ) (w e : List ℕ) → Derivation (grammar_of (dated g y)) limit w e
    → Derivation (grammar_of (dated g' y)) limit w e
learn-readings g g' longer y = Embedded.derivation-same (grammar_of (dated g y)) (grammar_of (dated g' y)) (longer.years y) limit

-- and the list L of the old grammar is that of the longer one, without the derivations that use the new rule
pub learn-list : (g g' : Grammar) → Longer g g' → (y : ℕ) (w : List ℕ)
    → filter (uses_only (grammar_of (dated g y))) (L (grammar_of (dated g' y)) w) ≡ L (grammar_of (dated g y)) w
learn-list g g' longer y = Inside.derivations-own (grammar_of (dated g y)) (grammar_of (dated g' y)) (longer.years y) limit

-- what had a tree has one
pub learn-tree : (g g' : Grammar) → Longer g g' → (y : ℕ) (w : List ℕ) → HasTree (grammar_of (dated g y)) w
    → HasTree (grammar_of (dated g' y)) w
learn-tree g g' longer y = Embedded.tree-into (λ r. r) (grammar_of (dated g y)) (grammar_of (dated g' y)) (longer.years y)

-- after an opening over any chart and any list of taking, setting and returning, refused ones included: each reply is what a plain machine
-- says, which knows no chart; and bytes, count and chart are what opening and taking only the bytes that remain would have left
pub points-history : (g : Grammar) (y : ℕ) (found : List ℕ) → valid_grammar g ≡ true → cells ≤ length found → (ops : List Op)
    → NoLearning ops → PointsHistory g y found ops (ran ops (held_after g (open_of (dated g y) found)))
points-history = Machine.points-history

-- A RULE LEARNT, request U8. After an opening over any chart and any list of taking, setting, returning and learning, refused ones too:
-- each reply is what the machine says, with the offset of a refused rule; grammar and points are the machine's; and bytes, count and chart
-- are what opening with the grammar that remains, and taking only the bytes that remain, would have left
pub learn-history : (g : Grammar) (y : ℕ) (found : List ℕ) → valid_grammar g ≡ true → cells ≤ length found → (ops : List Op)
    → LearnHistory g y found ops (ran ops (held_after g (open_of (dated g y) found)))
learn-history = Learnt.learn-history

-- DEMAND 2: opened over any chart and fed any row of bytes, the recognizer says "complete" exactly if the bytes so far have a parse tree,
-- and each cell holds exactly the nonterminals that derive its span
pub demand-2 : (g : Dated) (found : List ℕ) → valid_grammar g.grammar ≡ true → cells ≤ length found → (ms : List ℕ)
    → Recognized g found ms (fed g.grammar (open_of g found) ms)
demand-2 = Fed.recognized

-- the check says yes exactly if the offered row is a derivation, whoever wrote it
pub check-yes : (g : Dated) (w chart : List ℕ) → Ready g w chart → (e : List ℕ)
    → ((check_of g w e chart).answer ≡ answered true) ↔ Derivation (grammar_of g) limit w e
check-yes = Check.check-yes

pub check-no : (g : Dated) (w chart : List ℕ) → Ready g w chart → (e : List ℕ)
    → ((check_of g w e chart).answer ≡ answered false) ↔ (Derivation (grammar_of g) limit w e → ⊥)
check-no = Check.check-no

-- DEMAND 3, for every grammar that check 8 lets through, every input that check 9 lets through and every list of allowed calls
module _ (g : Dated) (valid : valid_grammar g.grammar ≡ true) (w : List ℕ) (high : length w ≤ max_input) where
  pub demand-3 : (tree : Dec (HasTree (grammar_of g) w)) (calls : List Made) → AllAllowed (grammar_of g) w calls → Demand3 g w tree calls
  demand-3 = Handed.demand-3 g valid w high

  -- whether the input has a tree is decided, so the claim is not empty
  pub tree-decided : Dec (HasTree (grammar_of g) w)
  tree-decided = Walk.tree-decided g valid w high

  -- first, and then next with the copy at least N times, hand out exactly L, one row after the other, and then say "none"
  pub first-then-next : (chart out : List ℕ) (lent : List (List ℕ × List ℕ)) → AllAllowed (grammar_of g) w (first chart out ∷ next_calls lent)
      → length (L (grammar_of g) w) ≤ length lent → handed_out (history g w [] (first chart out ∷ next_calls lent)) ≡ L (grammar_of g) w
  first-then-next = Consequences.first-then-next g valid w high

  pub first-then-next-said : (chart out : List ℕ) (lent : List (List ℕ × List ℕ))
      → AllAllowed (grammar_of g) w (first chart out ∷ next_calls lent)
      → 1 ≤ length (L (grammar_of g) w) → length (L (grammar_of g) w) ≤ suc (length lent)
      → history g w [] (first chart out ∷ next_calls lent)
      ≡ map hands (L (grammar_of g) w) ++ replicate (suc (length lent) - length (L (grammar_of g) w)) none_left
  first-then-next-said = Consequences.first-then-next-said g valid w high

  module _ (chart : List ℕ) (room : cells ≤ length chart) where
    -- count is N up to 4,096, if N is not 0 or the input has no tree; it is "more" exactly above
    pub count-exact : length (L (grammar_of g) w) ≤ 4096 → (1 ≤ length (L (grammar_of g) w)) ⊎ (HasTree (grammar_of g) w → ⊥)
        → (count_of g w chart).answer ≡ answered (counted (length (L (grammar_of g) w)))
    count-exact = Consequences.count-exact g valid w high chart room

    pub count-more : ((count_of g w chart).answer ≡ answered more) ↔ (4096 < length (L (grammar_of g) w))
    count-more = Consequences.count-more g valid w high chart room

    -- refusal 13 exactly if the input has trees, all of more than 512 nodes
    pub count-larger : ((count_of g w chart).answer ≡ refused 13) ↔ Larger g w
    count-larger = Consequences.count-larger g valid w high chart room

    module _ (out : List ℕ) (space : output_size ≤ length out) where
      -- "no reading" exactly if the input has no tree of any size
      pub no-derivation-exact : ((first_of g w chart out).answer ≡ answered nothing) ↔ (HasTree (grammar_of g) w → ⊥)
      no-derivation-exact = Consequences.no-derivation-exact g valid w high chart room out space

      pub first-larger : ((first_of g w chart out).answer ≡ refused 13) ↔ Larger g w
      first-larger = Consequences.larger-exact g valid w high chart room out space

-- THE BOOK'S TREES, for every book that loads, every year and every input of at most 64 bytes: first, and then next until none is left,
-- hand out exactly the parse trees of the grammar that was loaded, each once, in rising order. It joins load-demand, list-exact,
-- list-rising and first-then-next, and is about the results that load, first and next are proved to give
pub book-trees : (bytes : List ℕ) → (load_of bytes).answer ≡ loaded → (y : ℕ) (w : List ℕ) → length w ≤ max_input
    → EveryTree (dated (load_of bytes).grammar y) w
book-trees bytes accepted y = EveryTree.every-tree (dated (load_of bytes).grammar y) (EveryTree.loaded-valid bytes accepted)

-- THE LISTING PROGRAM: the listing of T with the plate `A`, byte for byte
pub listing-of-T : text_of T [] (As 1) ≡ listing_of_t
listing-of-T = Sample.listing-of-T

-- the nullable depth that a grammar holds does not change the text of an input
pub text-depth : (g : Grammar) (d y : ℕ) (w : List ℕ) → input_text (dated (set_depth g d) y) w ≡ input_text (dated g y) w
text-depth = TextDepth.text-depth

-- a program that reads no more of book, file with the year and plate than their fronts prints the same
pub text-front : (book file w : List ℕ)
    → text_of (take book_front book) (take year_front file) (take plate_front w) ≡ text_of book file w
text-front = Front.text-front

-- THE LISTING PROGRAM'S PAGES: if the first line that is due was found from the fronts of book, file with the year and plate, and page
-- after page is written until nothing is due, then the pages, one after the other, are the text of all three, and there are at most 4,097
-- of them
module _ (book file w p : List ℕ) (lengths : List ℤ) (chart₀ chart fits tables buf₀ buf last : List ℕ) (d : Due)
    (begun : BookBegun (take book_front book) (take year_front file) (take plate_front w) p lengths chart₀ chart fits tables buf₀ buf d)
    (pages : List (List ℕ))
    (run : Pages (lengths_in lengths) p fits chart tables d buf pages Nothing last) where
  pub pages-text : flatten pages ≡ flatten (text_of book file w)
  pages-text = Printed.pages-text book file w p lengths chart₀ chart fits tables buf₀ buf last d begun pages run

  pub pages-few : length pages ≤ 4097
  pages-few = Printed.pages-few book file w p lengths chart₀ chart fits tables buf₀ buf last d begun pages run
