-- The number of opening, check by check: each law is the way out at one of them. Assumes nothing.
use Rattle.std.specs.Prelude.{◌≡◌, true, false, ◌||◌, ℕ, ◌≤◌, ◌<◌, ltb}
use Rattle.std.proofs.Math.Bool.{or-false}
use borrow.Author.Tests.{lt-ltb, le-ltb}
use Rattle.rules.specs.Limits.{most_parallelism, most_places}
use Rattle.rules.specs.Refusals as refusal
use Rattle.rules.specs.Checks.{verdict, any, Sizes, spans_needed, waiting_needed, tally_needed, too_short, check_range, check_open}

module _ (P N : ℕ) (s : Sizes) where
  pub low_p : P < 1 → refusal.out_of_range ≡ verdict (check_open P N s)
  unfolding verdict check_open check_range
  low_p h = rw (lt-ltb P 1 h)

  module _ (a : 1 ≤ P) where
    pub high_p : most_parallelism < P → refusal.out_of_range ≡ verdict (check_open P N s)
    unfolding verdict check_open check_range
    high_p h = rw (le-ltb P 1 a, lt-ltb most_parallelism P h)

    module _ (b : P ≤ most_parallelism) where
      pub low_v : N < 1 → refusal.out_of_range ≡ verdict (check_open P N s)
      unfolding verdict check_open check_range
      low_v h = rw (le-ltb P 1 a, le-ltb most_parallelism P b, lt-ltb N 1 h)

      module _ (c : 1 ≤ N) where
        pub high_v : most_places < N → refusal.out_of_range ≡ verdict (check_open P N s)
        unfolding verdict check_open check_range
        high_v h = rw (le-ltb P 1 a, le-ltb most_parallelism P b, le-ltb N 1 c, lt-ltb most_places N h)

        module _ (d : N ≤ most_places) where
          pub short_of : too_short P N s ≡ true → refusal.too_short ≡ verdict (check_open P N s)
          unfolding verdict check_open check_range
          short_of h = rw (le-ltb P 1 a, le-ltb most_parallelism P b, le-ltb N 1 c, le-ltb most_places N d, h)

          pub enough : too_short P N s ≡ false → 0 ≡ verdict (check_open P N s)
          unfolding verdict check_open check_range
          enough h = rw (le-ltb P 1 a, le-ltb most_parallelism P b, le-ltb N 1 c, le-ltb most_places N d, h)

  -- the lengths
  pub short_spans : s.spans < spans_needed P → true ≡ too_short P N s
  unfolding too_short any
  short_spans h = rw (lt-ltb s.spans (spans_needed P) h)

  module _ (a : spans_needed P ≤ s.spans) where
    pub short_order : s.order < N → true ≡ too_short P N s
    unfolding too_short any
    short_order h = rw (le-ltb s.spans (spans_needed P) a, lt-ltb s.order N h)

    module _ (b : N ≤ s.order) where
      pub short_rows : s.rows < N → true ≡ too_short P N s
      unfolding too_short any
      short_rows h = rw (le-ltb s.spans (spans_needed P) a, le-ltb s.order N b, lt-ltb s.rows N h)

      module _ (c : N ≤ s.rows) where
        -- the entries suffice
        entries : too_short P N s ≡ (ltb s.marks N || (ltb s.locations N || (ltb s.waiting (waiting_needed N) || ltb s.tally (tally_needed P))))
        unfolding too_short any
        entries = rw (le-ltb s.spans (spans_needed P) a, le-ltb s.order N b, le-ltb s.rows N c, or-false (ltb s.tally (tally_needed P)))

        pub short_marks : s.marks < N → true ≡ too_short P N s
        short_marks h = rw (entries, lt-ltb s.marks N h)

        module _ (d : N ≤ s.marks) where
          pub short_locations : s.locations < N → true ≡ too_short P N s
          short_locations h = rw (entries, le-ltb s.marks N d, lt-ltb s.locations N h)

          module _ (e : N ≤ s.locations) where
            pub short_waiting : s.waiting < waiting_needed N → true ≡ too_short P N s
            short_waiting h = rw (entries, le-ltb s.marks N d, le-ltb s.locations N e, lt-ltb s.waiting (waiting_needed N) h)

            pub short_tally : waiting_needed N ≤ s.waiting → ltb s.tally (tally_needed P) ≡ too_short P N s
            short_tally h = rw (entries, le-ltb s.marks N d, le-ltb s.locations N e, le-ltb s.waiting (waiting_needed N) h)
