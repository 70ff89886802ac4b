-- A nonterminal never fits, a terminal where the byte of the input fits it. Assumes nothing.
use Rattle.packed.proofs.Fitting.{fits-nonterminal, fits_byte, fits-range, fits-past}
use Rattle.packed.proofs.fits_at.Goals as goal

pub returns-then-is_nonterminal : goal.returns-then-is_nonterminal
returns-then-is_nonterminal c = search fits-nonterminal

pub returns-then-is_range : goal.returns-then-is_range
returns-then-is_range c = search fits-range

pub returns-then-i-w : goal.returns-then-i-w
returns-then-i-w c = search fits_byte

pub returns : goal.returns
returns c = search fits-past
