-- All that has to be unfolded to prove a row of a table by computing it: `unfolding computing`. Assumes nothing.
use Rattle.cfg.specs.Grammar.{fits, joined}
use Rattle.cfg.specs.Listing.{over, when, from, among, keep, rules_from, items, up_to, listing, derivations}
use Rattle.cfg.specs.Decode as Decode
use Rattle.cfg.specs.Tree.{yield, code}
use Rattle.cfg.specs.Nullable.{symbols_in, heads, level, first_height, depth_of}
use Rattle.sets.specs.Set.{has, insert}
use Rattle.chart.specs.Cell.{fits_at, piece, some_from, cuts, derived}
use Rattle.chart.specs.Column as Column
use Rattle.theory_words.specs.Name as Name
use Rattle.theory_words.specs.Words as Texts
use Rattle.theory_tidying.specs.Tidying.{tidied_rule, tidied}
use Rattle.grammar.specs.Valid.{all, valid_rule, distinct_names, valid_grammar}
use Rattle.results.specs.Answer.{decide}
use Rattle.results.specs.Load as Load
use Rattle.results.specs.Recognize as Recognize
use Rattle.results.specs.Points as Points
use Rattle.results.specs.Learn as Learn
use Rattle.results.specs.Check.{same, listed, on_input, check_in, check_of}
use Rattle.results.specs.Measure as Measure
use Rattle.results.specs.Words as Words
use Rattle.results.specs.Before as Before
use Rattle.results.specs.Enumerate as Enumerate
use Rattle.results.specs.Starred.{outcome_in}

unfoldable pub computing : Unit {0}
unfolding fits joined over when from among keep rules_from items up_to listing derivations has insert fits_at piece some_from cuts derived
    symbols_in heads level first_height depth_of Column.seen Column.times Column.least Column.column Column.put_column Column.written
    Column.opened Column.extended Column.extended_by Column.filled Column.complete all valid_rule distinct_names valid_grammar decide
    Load.operands Load.operand Load.signed Load.open_rule Load.with_start Load.with_rule Load.with_place Load.with_name Load.after Load.unknown
    Load.open_named Load.out_of_turn Load.refused_name Load.operand_checks Load.command_checks Load.carried_out Load.step Load.refused_load
    Load.accepted_load Load.run Load.load_of Recognize.hand_of Recognize.points_within Recognize.open_in Recognize.open_of Recognize.take_in
    Recognize.take_of Points.kept_point Points.set_point_in Points.set_point_of same listed on_input check_in check_of Measure.sum Measure.nearest
    Measure.rounded Measure.unlisted Measure.length_in Measure.length_of Measure.rules_used Measure.same_build_in Measure.same_build_of
    Before.occurrences Before.same_bag Before.same_bag_build_in Before.same_bag_build_of Enumerate.tree_in Enumerate.handing_out Enumerate.head_of
    Enumerate.after_in Enumerate.figure Enumerate.on_output Enumerate.first_in Enumerate.first_of Enumerate.next_in Enumerate.next_of
    Enumerate.count_in Enumerate.count_of outcome_in yield code Decode.places_of Decode.with_siblings Decode.row_in Decode.below_in
    Decode.forest_in Name.name_byte Name.filling Name.filled_up Name.valid_name Name.unnamed Name.same_name Name.has_name Name.unfilled
    Name.hex_digit Name.number_text Name.rule_text Texts.leaf_text Texts.following Texts.forest_text Texts.derivation_text Words.words_in
    Words.words_of Learn.misplaced Learn.learn_checks Learn.learn_step Learn.with_depth Learn.learn_run Learn.enlarged Learn.learn_in Learn.learn_of tidied_rule tidied
computing = tt
