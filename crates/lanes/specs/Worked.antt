-- Worked: ` lane=L` struck from J1's listing, and from a text that has it elsewhere; and two jobs that differ only in the numbers of their
-- lanes. Computed from the definitions.
use Rattle.std.specs.Prelude.{◌≡◌, refl, List, ◌++◌, ℕ}
use Rattle.std.proofs.Common.{arith}
use Rattle.rules.specs.Text.{bytes}
use Rattle.rules.specs.Job.{lines_from, lines, ragged, digits_from, leading_zero, in_64_bits, number, after_key, with_number, key_or, line_of}
use Rattle.rules.specs.Listings.{listing_1}
use Rattle.lanes.specs.Claims.{equal, lanes, no_more, more, SameButLanes, leading_digits, lane_length, struck_from, struck}

pub struck_1 : struck listing_1
    ≡ bytes "status=0\nentries=4\nplaces=5\nfloor=2\nmedian=2\n"
    ++ (bytes "order=0 added=0 accepted=0 parallelism=2 written=0\n"
    ++ (bytes "order=1 added=2 accepted=2 parallelism=2 written=0\n"
    ++ (bytes "order=2 added=1 accepted=1 parallelism=2 written=0\n"
    ++ bytes "order=3 added=3 accepted=3 parallelism=1 written=4\n")))
unfolding leading_digits lane_length struck_from struck after_key
struck_1 = refl

-- of each just the digits go, and a key that is not all there stays
pub struck_elsewhere : struck (bytes "lane=1 lane=19 lane=8,7 lan=2 lane=255\n lane=0") ≡ bytes "lane=1,7 lan=2\n"
unfolding leading_digits lane_length struck_from struck after_key
struck_elsewhere = refl

abbrev job_a : List ℕ
job_a = bytes "parallelism=2\nplaces=3\nlane=3\nin=1\nout=2\nlane=255\nin=\nout=0\nin=0\nout=1\nfinal=1\n"

abbrev job_b : List ℕ
job_b = bytes "parallelism=2\nplaces=3\nlane=40\nin=1\nout=2\nlane=0\nin=\nout=0\nin=0\nout=1\nfinal=1\n"

pub only_lanes_differ : SameButLanes job_a job_b
unfolding lines_from lines ragged digits_from leading_zero in_64_bits number after_key with_number key_or line_of
only_lanes_differ =
    record {
      same_lines =
          more equal
          (more equal
          (more (lanes {x = 3} {y = 40} refl refl (omega arith) (omega arith))
          (more equal
          (more equal
          (more (lanes {x = 255} {y = 0} refl refl (omega arith) (omega arith)) (more equal (more equal (more equal (more equal (more equal no_more))))))))));
      same_end = refl;
    }
