-- The pages needed, by the place after all tables.
use Rattle.std.proofs.Common.{◌≡◌, Bool, true, false, List, arith, ltb, lt-ltb, le-ltb, ℕ, ◌+◌, ◌≤◌, ◌<◌}
use Rattle.rules.specs.Block.{process_count}
use Rattle.rules.specs.Order.{tracker_pages, pages_needed}
use Rattle.order_laws.specs.Places.{root_place}
use Rattle.order_laws.specs.Room.{needed_parts, needed_place}
use Rattle.order_places.specs.Capped.{capped}

module _ (b : List ℕ) (xip : ℕ → Bool) (N p place : ℕ) (c : p ≡ process_count b) (e : place ≡ capped (root_place b xip (tracker_pages b N) (p + 1))) where
  place_is : place ≡ capped (pages_needed b xip N)
  place_is = rw (e, c, needed_place b xip N)

  pub too_small : N < place → ltb N (pages_needed b xip N) ≡ true
  too_small h = lt-ltb N (pages_needed b xip N) (omega (arith, place_is))

  -- RAM that has as many pages, and no more than 01 lets it have
  module _ (l : N ≤ 4096) (h : place ≤ N) where
    pub place_needed : place ≡ pages_needed b xip N
    place_needed = omega (arith, place_is)

    pub room_enough : ltb N (pages_needed b xip N) ≡ false
    room_enough = le-ltb N (pages_needed b xip N) (omega (arith, place_needed))

    pub tracker_few : tracker_pages b N ≤ 4096
    tracker_few = omega (arith, place_needed, needed_parts b xip N)
