-- In front of each declaration and body of an accepted text the limits of what is visible are kept.
use Rattle.std.proofs.Common.{◌≡◌, ℕ, zero, suc, ◌+◌, ◌≤◌, true, List, [], ◌∷◌, ◌++◌, drop, Some, refl, sym, ap, ◌∙◌, subst, arith}
use Rattle.std.specs.List.{list_all}
use Rattle.base.specs.declared.limits.TheConstants.{WORDS}
use Rattle.ada_tree.specs.ProgramTree.{ProgramTree}
use Rattle.types.specs.declared.entity.Role.{Role}
use Rattle.types.specs.declared.entity.Role.TheVariants as role
use Rattle.types.specs.declared.entity.Subtype.{Subtype}
use Rattle.types.specs.Entities.{Object}
use Rattle.types.specs.Laws.{ShapesStay}
use Rattle.types.specs.Layouts.{total, words_of}
use Rattle.types.specs.Scopes.{Scope, entity_at}
use Rattle.types.specs.Shapes.{shape_of, words}
use Rattle.expr_soundness.specs.expr_rules.proofs.TypedLaw.{back_empty}
use Rattle.program_soundness.specs.declaration_rules.specs.PackageNames.{body_items_scope}
use Rattle.legality.specs.ProgramLayouts.{WordsHaveRoom, objects_words, total_of_all, variable_words, variables_words}
use Rattle.legality.specs.ProgramRules.{IsLegal}
use Rattle.program_soundness.specs.ravenscar.specs.ProgramRules.{IsRestricted}
use Rattle.size_rules.specs.ProgramSizes.{size_faults}
use Rattle.expr_soundness.specs.SoundScopes.{IsKnown, SoundScope}
use Rattle.expr_soundness.proofs.Goods.{object_known}
use Rattle.expr_soundness.proofs.Positions.{entity_kept}
use Rattle.expr_soundness.specs.meaning.specs.Programs.{program_of}
use Rattle.program_soundness.specs.BodyLaws.{NamesAreKnown, PremisesHold}
use Rattle.program_soundness.specs.Fronts.{declared_in, front, start_in}
use Rattle.program_soundness.proofs.Listing.{same_some}
use Rattle.program_soundness.proofs.Trees.{tree_package}
use Rattle.program_soundness.proofs.Walked.{scope_behind}
use Rattle.program_soundness.proofs.Whole.{IsPackage}
use Rattle.package_code.proofs.InFront.{known_inside}
use Rattle.package_code.proofs.Seen.{all_behind}
use Rattle.source_laws.specs.Visible.{FrontsKeepLimits, KeepsLimits}
use Rattle.source_laws.proofs.BoundedNames.{AreBounded, bounded_at, fronts_bounded, is_bounded, start_bounded}
use Rattle.source_laws.proofs.WholeItems.{declared_whole, is_whole_body_item}
use Rattle.source_laws.proofs.FullShapes.{type_full, full_fit}

-- ---- what stands in front is there in the whole

-- the names of the whole package are those in front of a place, and more
pub behind_front : (t : ProgramTree) (place : ℕ) → (more : Scope) × (body_items_scope (start_in t.package_) (declared_in t.package_) ≡ front t place ++ more)
behind_front t place =
    let more = all_behind (front t place) (drop place (declared_in t.package_)) in
    (more.0, sym (scope_behind (start_in t.package_) (declared_in t.package_) place) ∙ more.1)

-- the words of one variable are no more than those of all
one_of_all : (s names : Scope) (number : ℕ) (u : Subtype) → entity_at names number ≡ Some (Object role.Variable u)
    → words_of s u ≤ total (variables_words s names)
one_of_all s [] number u h = cc
one_of_all s (n ∷ names) zero u h =
    subst (λ e. words_of s u ≤ total (variable_words s e ++ variables_words s names)) (sym (same_some n.entity (Object role.Variable u) h)) (omega arith)
one_of_all s (n ∷ names) (suc number) u h =
    more_behind (variable_words s n.entity) (variables_words s names) (words_of s u) (one_of_all s names number u h)
  where
    more_behind : (ws vs : List ℕ) (w : ℕ) → w ≤ total vs → w ≤ total (ws ++ vs)
    more_behind [] vs w h = h
    more_behind (x ∷ ws) vs w h = let rest = more_behind ws vs w h in omega (arith, rest)

-- ---- in front of a place

is_variable : (r : Role) (u : Subtype) → is_bounded (Object r u) ≡ true → r ≡ role.Variable
is_variable role.Variable u h = refl
is_variable r u h = cc

module _ (premises : PremisesHold) (names : NamesAreKnown) (stay : ShapesStay) (room : WordsHaveRoom) (t : ProgramTree) (legal : IsLegal t)
    (restricted : IsRestricted t)
    (place : ℕ) where
  abbrev s : Scope
  s = front t place

  abbrev whole : Scope
  whole = (program_of t).scope

  pub sound : SoundScope s
  sound = (names t legal restricted).fronts place

  abbrev w : IsPackage (program_of t) (start_in t.package_) (declared_in t.package_)
  w = tree_package t legal restricted (premises t legal).sound

  -- words are those in the whole package
  pub same_words : (u : Subtype) → IsKnown s u → words_of whole u ≡ words_of s u
  same_words u known =
      let more = behind_front t place in
      ap (λ v. words_of v u) (sym w.scope ∙ more.1) ∙ ap words (stay s more.0 u (known_inside s u known))

  objects_few : AreBounded s → (number : ℕ) (r : Role) (u : Subtype) → entity_at s number ≡ Some (Object r u) → words_of s u ≤ WORDS
  objects_few bounded number r u at =
      let variable_ = is_variable r u (bounded_at s number (Object r u) bounded at) in
      let more = behind_front t place in
      let there : entity_at whole number ≡ Some (Object role.Variable u) =
      ap (λ v. entity_at v number) (sym w.scope ∙ more.1) ∙ entity_kept s more.0 number (Object r u) at ∙ ap (λ q. Some (Object q u)) variable_ in
      let one = one_of_all whole whole number u there in
      let all = room t (back_empty _ (size_faults t) legal) in
      let same = same_words u (object_known s r u (sound.each number (Object r u) at)) in
      under (words_of s u) (words_of whole u) (total (variables_words whole whole)) (total_of_all (objects_words whole whole)) same one all
    where
      under : (a b c d : ℕ) → b ≡ a → b ≤ c → c + d ≤ WORDS → a ≤ WORDS
      under a b c d e h k = omega (arith, e, h, k)

  limits_kept : AreBounded s → KeepsLimits s
  limits_kept bounded =
      record {
        types = λ u known. type_full s sound bounded u known;
        fit = λ u known up. full_fit (shape_of s u) (type_full s sound bounded u known) up;
        objects = λ number r u at. objects_few bounded number r u at;
      }

  front_bounded : list_all is_whole_body_item (declared_in t.package_) ≡ true → AreBounded s
  front_bounded items = fronts_bounded (start_in t.package_) (declared_in t.package_) place (start_bounded t.package_) items

pub fronts_keep_limits : PremisesHold → NamesAreKnown → ShapesStay → WordsHaveRoom → FrontsKeepLimits
fronts_keep_limits premises names stay room limit t tokens spelled legal restricted place =
    limits_kept premises names stay room t legal restricted place
    (front_bounded premises names stay room t legal restricted place (declared_whole limit t tokens spelled))
