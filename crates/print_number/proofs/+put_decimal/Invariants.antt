-- `print_number::put_decimal` calls itself. The measure is the number. Assumes nothing.
use Rattle.print_number.proofs.+put_decimal.Given as goal

abbrev pub decreases-put_decimal : goal.decreases-put_decimal
decreases-put_decimal l = l.n
