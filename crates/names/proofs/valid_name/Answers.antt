-- Each byte of a name is refused or passes by its law. Assumes nothing.
use Rattle.names.proofs.Valid.{first-refused, seven-left, byte-refused, byte-passes, name-read}
use Rattle.names.proofs.valid_name.Goals as goal

pub returns-then-not-name_byte : goal.returns-then-not-name_byte
returns-then-not-name_byte c = search first-refused

pub loop-b-init : goal.loop-b-init
loop-b-init c = search seven-left

pub returns-then-not-follows : goal.returns-then-not-follows
returns-then-not-follows c = search byte-refused

pub loop-b-preserved : goal.loop-b-preserved
loop-b-preserved c = search byte-passes

pub returns : goal.returns
returns c = search name-read
