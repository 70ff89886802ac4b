-- `words::write_offered` meets its contract: refusal 12 if the row is no derivation, 18 if its text is longer than the buffer.
-- Assumes nothing.
use Rattle.std.proofs.Common.{rules, arith}
use Rattle.words.proofs.Offered.{words-no, offered-short, words_long, root-writable, words-yes}
use Rattle.words.proofs.write_offered.Goals as goal

pub returns-then-not-is_derivation : goal.returns-then-not-is_derivation
returns-then-not-is_derivation c = search words-no

pub text_length-n-requires : goal.text_length-n-requires
text_length-n-requires c = search (offered-short, rules)

pub returns-then-n-buffer : goal.returns-then-n-buffer
returns-then-n-buffer c = search words_long

pub put_node-end-requires : goal.put_node-end-requires
put_node-end-requires c =
    root-writable _ _ _ _ _ _ c.is_derivation.ensures (search rules) _ c.text_length-n.ensures _ (omega arith) (omega arith) (omega arith)

pub returns : goal.returns
returns c = search words-yes
