-- The books for the search: every line of the table, computed. Assumes nothing.
use mathlib.Core.Path.{refl}
use Rattle.results.proofs.Computing.{computing}
use Rattle.load_nullable.specs.Nullable.{rule_known, add_head, pass, search_from, search_of}
use Rattle.load_nullable.specs.Table.{searches, SearchTable}

pub search-table : SearchTable
unfolding computing rule_known add_head pass search_from search_of searches
search-table = record { loads = refl; lines = refl }
