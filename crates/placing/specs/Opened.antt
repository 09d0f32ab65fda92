-- Spans opened: the new last span is empty and has the next number, and a put into it. Assumes nothing.
use Rattle.std.specs.Prelude.{◌≡◌, List, [], ℕ, ◌+◌, ◌≤◌, length, get_or, set, drop}
use Rattle.std.proofs.Common.{sym, ap, ◌∙◌, add-zero, arith, get_or-drop}
use Rattle.std.proofs.Math.ListN.{get_or-eq_default}
use Rattle.rules.specs.Guide.{Guide as GuideModel, put, release}
use Rattle.laws.specs.History.{len}
use Rattle.laws.specs.GuideInv.{len_extend, release_spans, release_first}
use Rattle.entries.specs.declared.Entry.{Entry}
use Rattle.entries.specs.Entries.{has_entry, with_entry, held_entry, item_of}
use Rattle.buffer.specs.declared.Guide.{Guide}
use Rattle.buffer.specs.View.{row_start, length_of, number_of, view, Laid}
use Rattle.buffer.specs.Moves.{with_window, longer, put_spans, slot_fits}
use Rattle.placing.specs.Done.{Done, done_here, done_as, done_then, put_done, view_length, len_view, number_view}

-- the guide with an entry stored as the first of its last span
abbrev pub begun : Guide → Guide → Guide
begun g h = with_window g (record { ids = h.window.ids; lens = set h.window.lens 31 1; rows = h.window.rows }) h.written (h.held + 1)

module _ (g h : Guide) (s o o' t t' : List ℕ) (n : ℕ) (k : Laid g s) (hn : 1 ≤ n) (d : Done g h s o t s o' t' (release g.p n (view g s o))) where
  abbrev b : GuideModel
  b = release g.p n (view g s o)

  opened_empty : length_of h 31 ≡ 0
  opened_empty =
      let ss = (view g s o).spans in
      sym (len_view h s o' d.stands.laid 31) ∙ ap (λ x. len x.spans 31) d.is ∙ ap (λ x. len x 31) (release_spans g.p n (view g s o)) ∙ len_extend (drop n ss) n 31
      ∙ ap length (get_or-drop n ss 31 [] ∙ get_or-eq_default ss [] (omega (arith, view_length g s o k)))

  pub opened_number : number_of h 31 ≡ number_of g 31 + n
  opened_number =
      omega (arith, number_view h s o' d.stands.laid 31 (omega arith), number_view g s o k 31 (omega arith), ap (λ x. x.first) d.is, release_first g.p n (view g s o))

  here : Done g (with_window g h.window h.written h.held) s o t s o' t' b
  here = done_here g h s o t s o' t' b d

  pub opened_slot : has_entry s (row_start (get_or h.window.rows 31 0) g.p)
  opened_slot = omega (arith, slot_fits (with_window g h.window h.written h.held) s here.stands.laid 31 (omega (arith, opened_empty)), opened_empty)

  pub open_put : (s' : List ℕ) (e : Entry) → s' ≡ with_entry s (row_start (get_or h.window.rows 31 0) g.p) (held_entry e)
      → Done g (begun g h) s o t s' o' t' (put 31 (item_of e) b)
  unfolding longer put_spans
  open_put s' e es =
      let h' = with_window g h.window h.written h.held in
      let z = opened_empty in
      let es' : s' ≡ put_spans h' s 31 e = rw (z, add-zero) es in
      let f : Done h' (begun g h) s o' t' s' o' t' (put 31 (item_of e) (view h' s o')) =
      rw z at (put_done h' s s' o' t' 31 e here.stands (omega arith) (omega arith) es') in
      done_as g (begun g h) s o t s' o' t' (put 31 (item_of e) (view h' s o')) (put 31 (item_of e) b) (ap (λ x. put 31 (item_of e) x) here.is)
      (done_then g h' (begun g h) s o t s o' t' s' o' t' b (put 31 (item_of e) (view h' s o')) here f)
