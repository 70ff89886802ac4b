-- The plates of the requests: every line of the table, computed, and the inputs without a tree. Assumes nothing.
use mathlib.Core.Path.{refl}
use Rattle.results.specs.Starred.{found_in, absent_in}
use Rattle.results.specs.Requests.{requests, sums, Requested}
use Rattle.results.specs.Builds.{compared, builds}
use Rattle.results.specs.NameLines.{name_lines, good_names, bad_names}
use Rattle.results.specs.LearnLines.{learnt_lines, refused_lines}
use Rattle.results.specs.YearLines.{year_lines}
use Rattle.results.specs.Texts.{text_outcome, text_lines}
use Rattle.results.proofs.Computing.{computing}
use Rattle.results.proofs.NoTree.{no-tree-only_a-empty, no-tree-bare-empty, no-tree-seals-1997, no-tree-empty-10, no-tree-start-4}

pub requested : Requested
unfolding computing found_in absent_in requests sums compared builds year_lines name_lines good_names bad_names text_outcome text_lines learnt_lines refused_lines
requested = record {
  lines = refl;
  no_tree_terminal = no-tree-only_a-empty;
  no_tree_rules = no-tree-bare-empty;
  depths_none = refl;
  depth_T = refl;
  depths = refl;
  names = refl;
  names_loaded = refl;
  names_good = refl;
  names_bad = refl;
  rounds = refl;
  compares = refl;
  years = refl;
  no_tree_before = no-tree-seals-1997;
  no_tree_empty = no-tree-empty-10;
  no_tree_start = no-tree-start-4;
  depths_years = refl;
  texts = refl;
  learns = refl;
  unlearnt = refl;
  tidies = refl;
  learnt_answer = refl;
  learnt_hand = refl;
  unlearnt_answer = refl;
  unlearnt_offset = refl;
}
