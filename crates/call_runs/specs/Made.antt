-- What making one call of an encoded list promises: the call is the one that the numbers say, and the numbers that follow it are found.
-- Assumes nothing.
use Rattle.std.specs.Prelude.{◌≡◌, List, Bool, not, ◌&&◌, ℕ, ◌≤◌, ◌<◌, length, drop, ltb, eqb}
use Rattle.std.proofs.Math.Option.{some}
use Rattle.rules.specs.Calls.{Call}
use Rattle.rules.specs.Encoding.{add_tag, lane_add_tag, counted, add_front, front, Front}
use Rattle.session.specs.declared.Session.{Session}
use Rattle.session.specs.Storage.{Storage, with_admitted}
use Rattle.admitting.specs.Told.{Told}
use Rattle.admitting.specs.Promise.{Asks, Called}
use Rattle.admitting.specs.Admitted.{Admits}

-- a tag that ends a run of sets and adds, which have the lowest tags, but for an add with a lane
unfoldable pub ends_run : ℕ → Bool
ends_run tag = ltb add_tag tag && not (eqb tag lane_add_tag)

-- a call starts at `at`
pub record Readable (l : List ℕ) (at : ℕ) : Type 0 where
  pub inside : at < length l
  pub read : Front
  pub is : front (drop at l) ≡ some read

-- the add at `at` is in this lane, and its lists start at `lists`
pub record AddAt (l : List ℕ) (at lane lists : ℕ) : Type 0 where
  pub is : front (drop at l) ≡ add_front lane (counted (drop lists l))
  pub past : at < lists
  pub within : lists ≤ length l

-- the numbers at `at` say the call, and those that follow it start at `next`
pub record Says (l : List ℕ) (at : ℕ) (call : Call) (next : ℕ) : Type 0 where
  pub is : front (drop at l) ≡ some (record { call = call; rest = drop next l })
  pub past : at < next
  pub within : next ≤ length l

-- one call read at `at` was made: the numbers that follow it start at `next`
pub record Made (l : List ℕ) (at n next : ℕ) (s s' : Session) (σ σ' : Storage) : Type 0 where
  pub call : Call
  pub is : front (drop at l) ≡ some (record { call = call; rest = drop next l })
  pub past : at < next
  pub within : next ≤ length l
  pub called : Called call n s s' σ σ'

-- the set or add read at `at` was admitted or refused: the numbers that follow it start at `next`
pub record AdmitsAt (l : List ℕ) (at : ℕ) (a : Told) (next : ℕ) (s : Session) (σ τ : Storage) : Type 0 where
  pub call : Call
  pub is : front (drop at l) ≡ some (record { call = call; rest = drop next l })
  pub past : at < next
  pub within : next ≤ length l
  pub admits : Admits call s a σ τ

-- The same of the slices that a set or an add touches before anything is placed: marks, waiting storage and pool. It is asked of some
-- storage with these contents, and promised of every one.
pub record AsksCall (s : Session) (m w pool : List ℕ) : Type 0 where
  pub around : Storage
  pub asks : Asks s (with_admitted around m w pool)

abbrev pub AdmitsCall : List ℕ → ℕ → Told → ℕ → Session → List ℕ → List ℕ → List ℕ → List ℕ → List ℕ → List ℕ → Type 0
AdmitsCall l at a next s m w pool m' w' pool' =
    (σ : Storage) → Asks s (with_admitted σ m w pool) → AdmitsAt l at a next s (with_admitted σ m w pool) (with_admitted σ m' w' pool')

-- where a whole storage is at hand
module _ {s : Session} {σ : Storage} (q : Asks s σ) where
  pub call_asked : AsksCall s σ.marks σ.waiting σ.pool
  call_asked = record { around = σ; asks = q }

  pub call_admitted : {l : List ℕ} {at next : ℕ} {a : Told} {m w pool : List ℕ} →
      AdmitsCall l at a next s σ.marks σ.waiting σ.pool m w pool → AdmitsAt l at a next s σ (with_admitted σ m w pool)
  call_admitted h = h σ q
