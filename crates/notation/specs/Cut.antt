-- A text cut in two at a mark.
use Rattle.std.specs.Prelude.{ℕ, Bool, true, false, if◌then◌else◌, ◌&&◌, List, [], ◌∷◌, length, drop, Some, None, Option, ◌==◌}
use Rattle.std.specs.Option.{option_map}

-- whether the text begins with the mark
abbrev pub begins : List ℕ → List ℕ → Bool
begins [] text = true
begins (m ∷ ms) [] = false
begins (m ∷ ms) (c ∷ cs) = c == m && begins ms cs

-- what stands before and after the first place of the mark in the text
abbrev pub cut : List ℕ → List ℕ → Option (List ℕ × List ℕ)
cut mark [] = None
cut mark (c ∷ cs) = if begins mark (c ∷ cs)
    then Some ([], drop (length mark) (c ∷ cs))
    else option_map (λ (p : List ℕ × List ℕ). (c ∷ p.0, p.1)) (cut mark cs)
