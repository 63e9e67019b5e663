-- Texts at the borders of RFC 3629's table, computed from the definition. Assumes nothing.
use Prim.Native.Nat.{ℕ}
use mathlib.Core.Path.{◌≡◌, refl}
use mathlib.Core.Bool.{Bool, true, false}
use mathlib.Core.List.{List, [], ◌∷◌, map}
use Rattle.text_utf8.specs.Utf8.{rest, utf8}

abbrev rows : List (List ℕ × Bool)
rows =
    ([], true)
    ∷ (0x00 ∷ 0x7F ∷ [], true)
    ∷ (0x80 ∷ [], false)
    ∷ (0xBF ∷ [], false)
    -- U+007F and U+0080 in two bytes
    ∷ (0xC1 ∷ 0xBF ∷ [], false)
    ∷ (0xC2 ∷ 0x80 ∷ [], true)
    ∷ (0xDF ∷ 0xBF ∷ [], true)
    -- U+07FF and U+0800 in three
    ∷ (0xE0 ∷ 0x9F ∷ 0xBF ∷ [], false)
    ∷ (0xE0 ∷ 0xA0 ∷ 0x80 ∷ [], true)
    -- the surrogates and what stands beside them
    ∷ (0xED ∷ 0x9F ∷ 0xBF ∷ [], true)
    ∷ (0xED ∷ 0xA0 ∷ 0x80 ∷ [], false)
    ∷ (0xED ∷ 0xBF ∷ 0xBF ∷ [], false)
    ∷ (0xEE ∷ 0x80 ∷ 0x80 ∷ [], true)
    -- U+FFFF and U+10000 in four, the highest character, and the first number above it
    ∷ (0xF0 ∷ 0x8F ∷ 0xBF ∷ 0xBF ∷ [], false)
    ∷ (0xF0 ∷ 0x90 ∷ 0x80 ∷ 0x80 ∷ [], true)
    ∷ (0xF4 ∷ 0x8F ∷ 0xBF ∷ 0xBF ∷ [], true)
    ∷ (0xF4 ∷ 0x90 ∷ 0x80 ∷ 0x80 ∷ [], false)
    ∷ (0xF5 ∷ 0x80 ∷ 0x80 ∷ 0x80 ∷ [], false)
    ∷ (0xFF ∷ [], false)
    -- characters that end early, at the end and before another
    ∷ (0xC2 ∷ [], false)
    ∷ (0xE2 ∷ 0x82 ∷ [], false)
    ∷ (0xF0 ∷ 0x90 ∷ 0x80 ∷ [], false)
    ∷ (0xC2 ∷ 0x41 ∷ [], false)
    ∷ (0xE2 ∷ 0x82 ∷ 0xC2 ∷ 0x80 ∷ [], false)
    -- one after another, and one byte too many
    ∷ (0x41 ∷ 0xC3 ∷ 0xA4 ∷ 0xE2 ∷ 0x82 ∷ 0xAC ∷ 0xF0 ∷ 0x9F ∷ 0x98 ∷ 0x80 ∷ [], true)
    ∷ (0xC3 ∷ 0xA4 ∷ 0x80 ∷ [], false)
    ∷ []

pub rows_hold : map (λ r. utf8 r.0) rows ≡ map (λ r. r.1) rows
unfolding utf8 rest
rows_hold = refl
