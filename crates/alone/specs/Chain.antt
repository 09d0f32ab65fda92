-- The claim about every list of requests: a chain of requests, each made on state and storage as the one before left them, refused or not,
-- leaves the guide alone of `rules` after that list and its tally, and numbers and locations are those of `rules`. Assumes nothing.
use Rattle.std.specs.Prelude.{◌≡◌, refl, List, [], ◌∷◌, map, ℕ, ◌+◌, take}
use Rattle.std.proofs.Common.{◌∙◌}
use Rattle.rules.specs.Guide.{tally}
use Rattle.rules.specs.Alone.{Alone as AloneModel, alone, Request, serve_step, serve_all, replies}
use Rattle.placing.specs.GuideFrame.{GuideFrame, frame_refl, frame_trans}
use Rattle.alone.specs.declared.Alone.{Alone}
use Rattle.alone.specs.Reply.{Reply}
use Rattle.alone.specs.Held.{model, Held, number, given, tally_is}
use Rattle.alone.specs.Served.{Served, locations_given}
use Rattle.alone.specs.Opening.{Opens, open_frame}

-- from x, s, o, t the requests lead with these replies to y, s', o', t'
pub data Chain : Alone → List ℕ → List ℕ → List ℕ → List Request → List Reply → Alone → List ℕ → List ℕ → List ℕ → Type 0 where
  end : {x : Alone} {s o t : List ℕ} → Chain x s o t [] [] x s o t
  next : {x x' y : Alone} {s o t s' o' t' s'' o'' t'' : List ℕ} {q : Request} {qs : List Request} {r : Reply} {rs : List Reply}
      → Served q x x' s o t s' o' t' r → Chain x' s' o' t' qs rs y s'' o'' t'' → Chain x s o t (q ∷ qs) (r ∷ rs) y s'' o'' t''

-- what a chain amounts to
pub record Linked (x y : Alone) (s o t s' o' t' : List ℕ) (qs : List Request) (rs : List Reply) : Type 0 where
  pub is : model y s' o' ≡ serve_all x.guide.p x.guide.v qs (model x s o)
  pub numbers : map number rs ≡ replies x.guide.p x.guide.v qs (model x s o)
  pub locations : map given rs ≡ locations_given x.guide.p x.guide.v qs (model x s o)
  pub held : Held x s o t → Held y s' o' t'
  pub same_p : y.guide.p ≡ x.guide.p
  pub same_v : y.guide.v ≡ x.guide.v
  pub frame : GuideFrame x.guide.p x.guide.written y.guide.written s o t s' o' t'

one_more : (P N Q M : ℕ) (q : Request) (qs : List Request) (a b : AloneModel) → Q ≡ P → M ≡ N → b ≡ serve_step P N q a
    → (serve_all Q M qs b ≡ serve_all P N (q ∷ qs) a) × (replies Q M qs b ≡ replies P N qs (serve_step P N q a)) × (locations_given Q M qs b ≡ locations_given P N qs (serve_step P N q a))
unfolding serve_all
one_more P N Q M q qs a b e f g = (rw (e, f, g), rw (e, f, g), rw (e, f, g))

ap2 : {A : Type 0} {n m : A} {l k : List A} → n ≡ m → l ≡ k → (n ∷ l) ≡ (m ∷ k)
ap2 e f = rw (e, f)

pub reframe : {p p' n n' : ℕ} {s o t s' o' t' : List ℕ} → p' ≡ p → GuideFrame p' n n' s o t s' o' t' → GuideFrame p n n' s o t s' o' t'
reframe e f = rw e at f

pub linked : {x y : Alone} {s o t s' o' t' : List ℕ} {qs : List Request} {rs : List Reply} → Chain x s o t qs rs y s' o' t' → Linked x y s o t s' o' t' qs rs
unfolding serve_all replies locations_given
linked {x} {s = s} {o = o} {t = t} end =
    record { is = refl; numbers = refl; locations = refl; held = λ h. h; same_p = refl; same_v = refl; frame = frame_refl x.guide.p x.guide.written s o t }
linked {x} {s = s} {o = o} (next {q = q} {qs = qs} c rest) =
    let l = linked rest in
    let m = one_more x.guide.p x.guide.v _ _ q qs (model x s o) _ c.same_p c.same_v c.is in
    record {
      is = l.is ∙ m.0;
      numbers = ap2 c.number_is (l.numbers ∙ m.1);
      locations = ap2 c.given_is (l.locations ∙ m.2);
      held = λ h. l.held c.held;
      same_p = l.same_p ∙ c.same_p;
      same_v = l.same_v ∙ c.same_v;
      frame = frame_trans c.frame (reframe c.same_p l.frame);
    }

named : {A : Type 0} (P Q N M : ℕ) (a b : AloneModel) → P ≡ Q → N ≡ M → a ≡ b → (f : ℕ → ℕ → AloneModel → A) → f P N a ≡ f Q M b
named P Q N M a b e g h f = rw (e, g, h)

-- what an opening left is a fresh guide of `rules`
opened : {A : Type 0} (p v : ℕ) {x : Alone} {s o t t₀ : List ℕ} → Opens p v 0 x s o t₀ t
    → (f : ℕ → ℕ → AloneModel → A) → f x.guide.p x.guide.v (model x s o) ≡ f p v alone
opened p v {x} {s} {o} a f = named x.guide.p p x.guide.v v (model x s o) alone (a.p_is refl) (a.v_is refl) (a.is refl) f

-- the requests qs of a guide opened with P and N over s, o, t were answered by rs and left y, s', o', t'
pub record AfterList (P N : ℕ) (qs : List Request) (rs : List Reply) (y : Alone) (s o t s' o' t' : List ℕ) : Type 0 where
  pub is : model y s' o' ≡ serve_all P N qs alone
  pub numbers : map number rs ≡ replies P N qs alone
  pub locations : map given rs ≡ locations_given P N qs alone
  pub tally_is : take (P + 1) t' ≡ tally P (serve_all P N qs alone).guide.order
  pub held : Held y s' o' t'
  pub p_is : y.guide.p ≡ P
  pub v_is : y.guide.v ≡ N
  pub frame : GuideFrame P 0 y.guide.written s o t s' o' t'

-- from an accepted opening, after every list of requests
pub after_every_list : (p v : ℕ) {x y : Alone} {s o t t₀ s' o' t' : List ℕ} {qs : List Request} {rs : List Reply}
    → Opens p v 0 x s o t₀ t → Chain x s o t qs rs y s' o' t' → AfterList p v qs rs y s o t₀ s' o' t'
after_every_list p v {x} {y} {s = s} {o = o} {t = t} {t₀ = t₀} {s' = s'} {o' = o'} {qs = qs} a c =
    let l = linked c in
    let e = l.is ∙ opened p v a (λ P N b. serve_all P N qs b) in
    let h = l.held (a.held refl) in
    let q = l.same_p ∙ a.p_is refl in
    record {
      is = e;
      numbers = l.numbers ∙ opened p v a (λ P N b. replies P N qs b);
      locations = l.locations ∙ opened p v a (λ P N b. locations_given P N qs b);
      tally_is = tally_is y s' o' e h q;
      held = h;
      p_is = q;
      v_is = l.same_v ∙ a.v_is refl;
      frame = frame_trans (open_frame p v 0 0 x s o t₀ t a) (rw (a.p_is refl, a.written_is refl) at l.frame);
    }
