-- A window after the release of its first span.
use Rattle.std.specs.Prelude.{[], ◌∷◌, ◌++◌, ◌+◌, drop, get_or}
use Rattle.window.specs.declared.Window.{Window}

unfoldable pub rotated : Window → Window
rotated w =
    record { ids = drop 1 w.ids ++ ((get_or w.ids 31 0 + 1) ∷ []); lens = drop 1 w.lens ++ (0 ∷ []); rows = drop 1 w.rows ++ (get_or w.rows 0 0 ∷ []) }
