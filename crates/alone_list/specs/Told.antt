-- The reply to a request as the theorems tell it, by what serving it returns; and a push as the code reads it off its numbers. Assumes nothing.
use Rattle.std.specs.Prelude.{◌≡◌, ◌≢◌, Bool, not, ℕ, List, get_or, Option, Some, None, Result, Ok, Err}
use Rattle.std.proofs.Common.{sym, ◌∙◌, ap, eq-eqb, ne_eqb}
use Rattle.rules.specs.declared.Refusal.{Refusal}
use Rattle.rules.specs.Answer.{number_of}
use Rattle.rules.specs.Alone.{Request}
use Rattle.window.specs.declared.Location.{Location}
use Rattle.window.specs.Location.{has, span_of, pos_of}
use Rattle.alone.specs.Reply.{Reply, At, Released, Rejected}
use Rattle.alone.specs.Pushing.{pushing, pushing_none}
use Rattle.alone_list.specs.Requests.{request_at, is_push}

abbrev pub reply_of : Result (Option Location) Refusal → Reply
reply_of (Ok (Some at)) = At at.span at.pos
reply_of (Ok None) = Released
reply_of (Err e) = Rejected (number_of e)

-- the push that six numbers are, their kind being 1, or another one
module _ (q : List ℕ) (h : get_or q 0 0 ≢ 0) where
  abbrev pub push_of : Option Location → Request
  push_of after = pushing (has after) (span_of after) (pos_of after) (get_or q 3 0) (get_or q 4 0) (get_or q 5 0)

  pub push_plain : {after : Option Location} → get_or q 0 0 ≡ 1 → after ≡ None → push_of after ≡ request_at q 0
  push_plain e n =
      ap push_of n ∙ sym (pushing_none (get_or q 1 0) (get_or q 2 0) (get_or q 3 0) (get_or q 4 0) (get_or q 5 0))
      ∙ sym (ap (λ (k : Bool). pushing (not k) (get_or q 1 0) (get_or q 2 0) (get_or q 3 0) (get_or q 4 0) (get_or q 5 0)) (eq-eqb (get_or q 0 0) 1 e)) ∙ is_push q 0 h

  pub push_after : {after : Option Location} → get_or q 0 0 ≢ 1 → after ≡ Some (record { span = get_or q 1 0; pos = get_or q 2 0 }) → push_of after ≡ request_at q 0
  push_after e n =
      ap push_of n ∙ sym (ap (λ (k : Bool). pushing (not k) (get_or q 1 0) (get_or q 2 0) (get_or q 3 0) (get_or q 4 0) (get_or q 5 0)) (ne_eqb (get_or q 0 0) 1 e)) ∙ is_push q 0 h
