-- What each exported function returns and leaves, in terms of the results of document 01. A grammar is a flat row (crate c_grammar), and a
-- state of the recognizer is a row too (crate c_hand). In each record `found` is what the lent place had before. Assumes nothing.
use Rattle.std.specs.Prelude.{ℕ, ◌<◌, Bool, cond, List, ◌≡◌, eqb, ℤ, get_or}
use Rattle.c_grammar.specs.Flat.{grammar_in, flat_of}
use Rattle.c_hand.specs.Hand.{row_of}
use Rattle.results.specs.Answer.{Figure}
use Rattle.results.specs.Check.{Checking}
use Rattle.results.specs.Enumerate.{Enumeration}
use Rattle.results.specs.Learn.{Learning}
use Rattle.results.specs.Load.{load_of}
use Rattle.results.specs.Name.{Part}
use Rattle.results.specs.Recognize.{Recognition}
use Rattle.results.specs.Words.{Writing}
use Rattle.c_answer.specs.Code.{code_of, left_of, verdict_code, row_left, flat_left, length_code, tenths_left, handing_code, nodes_left}
use Rattle.c_answer.specs.Code.{words_code, bytes_left, figure_code, figure_left, load_code, offset_left, fault_left}

-- loading a book: what is returned, the row left, the offset left, and that the row is read back as the grammar that was loaded
pub record Loads (book : List ℕ) (found : ℕ) (code : ℕ) (row : List ℕ) (offset : ℕ) : Type 0 where
  pub returned : code ≡ load_code (load_of book).answer
  pub grammar : row ≡ flat_of (load_of book).grammar
  pub at : offset ≡ offset_left (load_of book).answer found
  pub read : grammar_in row ≡ (load_of book).grammar

-- opening: what is returned, the row of the state left and the chart left
pub record Opens (r : Recognition) (code : ℕ) (row : List ℕ) (chart : List ℕ) : Type 0 where
  pub returned : code ≡ code_of verdict_code r.answer
  pub state : row ≡ row_of r.state
  pub left : chart ≡ r.chart

-- taking, setting a point and returning to it: what is returned, the row left and the chart left
pub record Takes (r : Recognition) (found : List ℕ) (code : ℕ) (row : List ℕ) (chart : List ℕ) : Type 0 where
  pub returned : code ≡ code_of verdict_code r.answer
  pub state : row ≡ left_of (row_left r.state) r.answer found
  pub left : chart ≡ r.chart

-- learning: what is returned, the rows of grammar and state left, the chart left, the offset left, and that a row of 16-bit numbers is left
-- as one that is read back as the grammar
pub record Learns (l : Learning) (found_flat found_row : List ℕ) (found : ℕ) (code : ℕ) (flat row chart : List ℕ) (offset : ℕ) : Type 0 where
  pub returned : code ≡ code_of verdict_code l.answer
  pub grammar : flat ≡ left_of (flat_left l.grammar) l.answer found_flat
  pub state : row ≡ left_of (row_left l.state) l.answer found_row
  pub left : chart ≡ l.chart
  pub at : offset ≡ fault_left l.offset l.answer found
  pub read : ((i : ℕ) → get_or found_flat i 0 < 65536) → grammar_in flat ≡ l.grammar

-- check and same build: what is returned, and the chart left
pub record Checks (k : Checking Bool) (code : ℕ) (chart : List ℕ) : Type 0 where
  pub returned : code ≡ code_of verdict_code k.answer
  pub left : chart ≡ k.chart

-- length: what is returned, the chart left, and the number left
pub record Measures (k : Checking ℤ) (found : ℤ) (code : ℕ) (chart : List ℕ) (tenths : ℤ) : Type 0 where
  pub returned : code ≡ code_of length_code k.answer
  pub left : chart ≡ k.chart
  pub measured : tenths ≡ left_of tenths_left k.answer found

-- words: what is returned, the chart and the buffer left, and the number left
pub record Writes (x : Writing) (found : ℕ) (code : ℕ) (chart buffer : List ℕ) (bytes : ℕ) : Type 0 where
  pub returned : code ≡ code_of words_code x.answer
  pub left : chart ≡ x.chart
  pub written : buffer ≡ x.buffer
  pub counted : bytes ≡ left_of bytes_left x.answer found

-- first and next: what is returned, the chart and the output left, and the number left
pub record Hands (x : Enumeration) (found : ℕ) (code : ℕ) (chart output : List ℕ) (nodes : ℕ) : Type 0 where
  pub returned : code ≡ code_of handing_code x.answer
  pub left : chart ≡ x.chart
  pub written : output ≡ x.output
  pub counted : nodes ≡ left_of nodes_left x.answer found

-- count: what is returned, the chart left, and the number left
pub record Counts (k : Checking Figure) (found : ℕ) (code : ℕ) (chart : List ℕ) (figure : ℕ) : Type 0 where
  pub returned : code ≡ code_of figure_code k.answer
  pub left : chart ≡ k.chart
  pub counted : figure ≡ left_of figure_left k.answer found

-- the name lookup: 1 for a part and 0 for the empty one, and the offset and the length left
pub record Finds (p : Part) (found_offset found_length : ℕ) (code : ℕ) (offset size : ℕ) : Type 0 where
  pub returned : code ≡ cond (eqb p.length 0) 0 1
  pub at : offset ≡ cond (eqb p.length 0) found_offset p.offset
  pub long : size ≡ cond (eqb p.length 0) found_length p.length
