-- Between calls what a model holds fits, and so does what an accepted flush or final makes of it. Assumes nothing.
use Rattle.std.specs.Prelude.{◌≡◌, [], Bool, true, ℕ, suc, ◌≤◌}
use Rattle.rules.specs.Limits.{most_places}
use Rattle.rules.specs.Model.{Model, tracked, watermark as watermark_of, with_flush}
use Rattle.rules.specs.Calls.{flush as flush_call, final as final_call, answer}
use Rattle.laws.specs.Placeable.{Fits, fits_of}
use Rattle.laws.specs.Sound.{Between, sound_kept}

-- what fits does not depend on the count of flushes, nor on whether closed
fits_flushed : (P N f g : ℕ) (b c : Bool) (k : Model) → Fits P N (with_flush P f b k) → Fits P N (with_flush P g c k)
unfolding with_flush watermark_of tracked
fits_flushed P N f g b c k F =
    record {
      many = F.many;
      window = F.window;
      later = F.later;
      capped = F.capped;
      room = F.room;
      low = F.low;
      held_known = F.held_known;
      order_known = F.order_known;
      parallelisms = F.parallelisms;
      watermark_low = F.watermark_low;
      located_below = F.located_below;
      sets_below = F.sets_below;
    }

module _ (P N W : ℕ) (k : Model) (hP : 1 ≤ P) (small : N ≤ most_places) (B : Between P N W k) where
  pub fits_now : Fits P N k
  fits_now = fits_of P N W hP k [] B.sound small

  pub fits_flush : answer N W flush_call k ≡ 0 → Fits P N (with_flush P k.flushes k.closed k)
  fits_flush e =
      fits_flushed P N (suc k.flushes) k.flushes k.closed k.closed k
      (fits_of P N W hP (with_flush P (suc k.flushes) k.closed k) [] ((sound_kept P N W hP).flushing k B.sound.inv e B.sound) small)

  pub fits_final : answer N W final_call k ≡ 0 → Fits P N (with_flush P k.flushes k.closed k)
  fits_final e =
      fits_flushed P N k.flushes k.flushes true k.closed k
      (fits_of P N W hP (with_flush P k.flushes true k) [] ((sound_kept P N W hP).closing k B.sound.inv e B.sound) small)
