-- What count says of N, by the decided results and by the machine: the figure up to `most`, "more" above; the rows on both sides of 4,096;
-- and the two agree. Assumes nothing.
use Prim.Native.Nat.{ℕ, ◌≤◌, ◌<◌}
use mathlib.Core.List.{List, ◌∷◌}
use mathlib.Core.Path.{◌≡◌, refl}
use lib.Dec.{leb}
use borrow.Author.Tests.{le-leb, lt-leb}
use Rattle.laws.proofs.Bools.{by-test}
use Rattle.sizes.specs.Sizes.{most}
use Rattle.results.specs.Answer.{answered, counted, more}
use Rattle.results.specs.Enumerate.{figure}
use Rattle.results.specs.Walk.{Said, counts, says_count, handed_out}
use Rattle.results.specs.Walk as Walk
use Rattle.results.specs.History.{count_said, copied}

-- ---- on both sides of 4,096

pub figure-rows : (figure 4096 ≡ counted 4096) × (figure 4097 ≡ more)
unfolding figure
figure-rows = (refl, refl)

pub says_count-rows : (says_count 4096 ≡ counts 4096) × (says_count 4097 ≡ Walk.more)
unfolding says_count
says_count-rows = (refl, refl)

-- ---- any N

module _ (n : ℕ) where
  pub figure-counted : n ≤ most → figure n ≡ counted n
  unfolding figure
  figure-counted h = rw (le-leb n most h)

  pub figure-more : most < n → figure n ≡ more
  unfolding figure
  figure-more h = rw (lt-leb n most h)

  -- what count says to the caller is what the machine says
  pub figure-said : count_said (answered (figure n)) ≡ says_count n
  unfolding count_said figure says_count
  figure-said = by-test (leb n most) (λ e. rw e) (λ e. rw e)

  -- the machine's figure hands nothing out
  pub says_count-copied : (copy : List ℕ) → copied (says_count n) copy ≡ copy
  unfolding copied says_count
  says_count-copied copy = by-test (leb n most) (λ e. rw e) (λ e. rw e)

  pub says_count-handed : (said : List Said) → handed_out (says_count n ∷ said) ≡ handed_out said
  unfolding handed_out says_count
  says_count-handed said = by-test (leb n most) (λ e. rw e) (λ e. rw e)
