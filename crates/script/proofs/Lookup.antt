-- The first of a table's entries that is spelled so. Assumes nothing.
use Rattle.std.proofs.Common.{◌≡◌, ℕ, true, false, cond, List, [], ◌∷◌, map, Some, None, Option, find, refl, ap, ◌∙◌, Bor}
use Rattle.std.specs.Option.{option_map}
use Rattle.std.specs.Str.{bytes_eq}
use Rattle.script.specs.declared.commands.Name.{Name}
use Rattle.script.specs.Commands.{names, spelled}

abbrev pub entry : Bor (List ℕ) × Name → List ℕ × Name
entry e = (e.0.now, e.1)

find_entry : (word : List ℕ) (table : List (Bor (List ℕ) × Name)) → option_map (λ e. e.1) (find (λ e. bytes_eq e.0.now word) table) ≡ option_map (λ e. e.1) (find (λ e. bytes_eq e.0 word) (map entry table))
find_entry word [] = refl
find_entry word (e ∷ table) =
    elim (bytes_eq e.0.now word) as (λ t. option_map (λ e. e.1) (cond t (Some e) (find (λ e. bytes_eq e.0.now word) table)) ≡ option_map (λ e. e.1) (cond t (Some (entry e)) (find (λ e. bytes_eq e.0 word) (map entry table)))) [
      | true ↦ refl
      | false ↦ find_entry word table
    ]

name_at : (r : Option (Bor (Bor (List ℕ) × Name))) → option_map (λ y. y.now.1) r ≡ option_map (λ e. e.1) (option_map (λ y. y.now) r)
name_at None = refl
name_at (Some y) = refl

pub spelled_find : (word : List ℕ) (table : List (Bor (List ℕ) × Name)) (r : Option (Bor (Bor (List ℕ) × Name))) → map entry table ≡ names → option_map (λ y. y.now) r ≡ find (λ e. bytes_eq e.0.now word) table → option_map (λ y. y.now.1) r ≡ spelled word
unfolding spelled
spelled_find word table r is found =
    name_at r ∙ ap (option_map (λ e. e.1)) found ∙ find_entry word table ∙ ap (λ t. option_map (λ e. e.1) (find (λ e. bytes_eq e.0 word) t)) is
