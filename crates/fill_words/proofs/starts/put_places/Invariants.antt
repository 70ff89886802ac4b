-- The loop's invariant: the places passed are added. Assumes nothing.
use Rattle.std.proofs.Common.{◌≡◌, ◌≤◌, ◌⊎◌}
use Rattle.packed.specs.Packed.{place_count}
use Rattle.fill_words.proofs.Adding.{PlacesTo}
use Rattle.fill_words.proofs.starts.put_places.Given as goal

abbrev pub invariant-loop-q : goal.invariant-loop-q
invariant-loop-q l =
    ((l.q ≤ place_count l.p l.r) ⊎ (l.q ≡ 1)) × PlacesTo l.p l.r l.i l.flags l.initial.starts l.initial.live l.q l.starts l.live
