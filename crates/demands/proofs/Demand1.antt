-- Demand 1, put together for each call. Assumes nothing.
use Prim.Native.Nat.{ℕ}
use mathlib.Core.List.{List}
use Rattle.grammar.specs.declared.Grammar.{Grammar}
use Rattle.grammar.specs.View.{Dated}
use Rattle.results.specs.Recognize.{State, open_of, take_of}
use Rattle.results.specs.Check.{check_of}
use Rattle.results.specs.Measure.{length_of, same_build_of}
use Rattle.results.specs.Enumerate.{first_of, next_of, count_of}
use Rattle.results.specs.Words.{words_of}
use Rattle.demands.specs.Demand1.{OpenDemand, TakeDemand, InputDemand, OutputDemand, WordsDemand}
use Rattle.demands.proofs.Kept as Kept
use Rattle.demands.proofs.Order as Order
use Rattle.demands.proofs.Untouched as Untouched
use Rattle.demands.proofs.Filled as Filled
use Rattle.demands.proofs.Words as Words

pub open-demand : (g : Dated) (chart : List ℕ) → OpenDemand g chart (open_of g chart)
open-demand g chart = record {
  kept = Kept.open_kept g chart;
  order = Order.open_order g chart;
  untouched = Untouched.open-untouched g chart;
  opened = Filled.open-filled g chart;
}

pub take-demand : (g : Grammar) (h : State) (m : ℕ) (chart : List ℕ) → TakeDemand g h chart (take_of g h m chart)
take-demand g h m chart = record {
  kept = Kept.take-kept g h m chart;
  order = Order.take-order g h m chart;
  untouched = Untouched.take-untouched g h m chart;
}

pub check-demand : (g : Dated) (w e chart : List ℕ) → InputDemand g w chart (check_of g w e chart)
check-demand g w e chart = record {
  kept = Kept.check-kept g w chart e;
  order = Order.check-order g w chart e;
  untouched = λ n l. Untouched.check-untouched g w chart n e;
  chart_filled = λ r. Filled.check-filled g w chart r e;
}

pub length-demand : (g : Dated) (w e chart : List ℕ) → InputDemand g w chart (length_of g w e chart)
length-demand g w e chart = record {
  kept = Kept.length-kept g w chart e;
  order = Order.length-order g w chart e;
  untouched = λ n. Untouched.length-untouched g w chart n e;
  chart_filled = λ r. Filled.length-filled g w chart r e;
}

pub same-build-demand : (g : Dated) (w a b chart : List ℕ) → InputDemand g w chart (same_build_of g w a b chart)
same-build-demand g w a b chart = record {
  kept = Kept.same-build-kept g w chart a b;
  order = Order.same-build-order g w chart a b;
  untouched = λ n. Untouched.same-build-untouched g w chart n a b;
  chart_filled = λ r. Filled.same-build-filled g w chart r a b;
}

pub count-demand : (g : Dated) (w chart : List ℕ) → InputDemand g w chart (count_of g w chart)
count-demand g w chart = record {
  kept = Kept.count_kept g w chart;
  order = Order.count-order g w chart;
  untouched = λ n. Untouched.count-untouched g w chart n;
  chart_filled = λ r. Filled.count-filled g w chart r;
}

pub first-demand : (g : Dated) (w chart out : List ℕ) → OutputDemand g w chart out (first_of g w chart out)
first-demand g w chart out = record {
  kept = (Kept.first-kept g w chart out).0;
  output = (Kept.first-kept g w chart out).1;
  order = Order.first-order g w chart out;
  untouched = λ n l. Untouched.first-untouched g w chart out n l;
  chart_filled = λ r. Filled.first-filled g w chart out r;
}

pub next-demand : (g : Dated) (w e chart out : List ℕ) → OutputDemand g w chart out (next_of g w e chart out)
next-demand g w e chart out = record {
  kept = (Kept.next-kept g w chart out e).0;
  output = (Kept.next-kept g w chart out e).1;
  order = Order.next-order g w chart out e;
  untouched = λ n l. Untouched.next-untouched g w chart out n l e;
  chart_filled = λ r. Filled.next-filled g w chart out r e;
}

pub words-demand : (g : Dated) (w e chart buffer : List ℕ) → WordsDemand g w e chart buffer (words_of g w e chart buffer)
words-demand g w e chart buffer = record {
  kept = (Words.words-kept g w e chart buffer).0;
  output = (Words.words-kept g w e chart buffer).1;
  order = Words.words-order g w e chart buffer;
  untouched = Words.words-untouched g w e chart buffer;
  chart_filled = Words.words-filled g w e chart buffer;
}
