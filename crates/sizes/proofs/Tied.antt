-- Each constant of src/ is the size of specs/: other crates use the one in code and the other in contracts. Assumes nothing.
use Rattle.std.proofs.Common.{◌≡◌, refl}
use Rattle.sizes.specs.declared.TheConstants.{MAX_RULES, MAX_PLACES, NONTERMINALS, MAX_INPUT, SIDE, CELLS, MAX_NODES, TOO_MANY, OUTPUT, MOST}
use Rattle.sizes.specs.Sizes.{max_rules, max_places, nonterminals, max_input, side, cells, max_nodes, too_many, output_size, most}

pub tied-rules : MAX_RULES ≡ max_rules
tied-rules = refl

pub tied-places : MAX_PLACES ≡ max_places
tied-places = refl

pub tied-nonterminals : NONTERMINALS ≡ nonterminals
tied-nonterminals = refl

pub tied-input : MAX_INPUT ≡ max_input
tied-input = refl

pub tied-side : SIDE ≡ side
tied-side = refl

pub tied-cells : CELLS ≡ cells
tied-cells = refl

pub tied-nodes : MAX_NODES ≡ max_nodes
tied-nodes = refl

pub tied-too-many : TOO_MANY ≡ too_many
tied-too-many = refl

pub tied-output : OUTPUT ≡ output_size
tied-output = refl

pub tied-most : MOST ≡ most
tied-most = refl
