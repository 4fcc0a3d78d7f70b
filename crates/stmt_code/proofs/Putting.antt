-- Code of lines: the value, and the instruction that writes it with a label.
use Rattle.std.proofs.Common.{◌≡◌, ℕ, List, [], true, Option, Some, None, refl, sym, ap, ◌∙◌, subst}
use Rattle.ada_tree.specs.ExpressionTree as tree
use Rattle.ada_tree.specs.ExpressionTree.{Arguments, Attribute, Component, ExprTree, MoreArguments, MoreSelectors, NameTree, NoArguments, NoSelectors, SelectorTrees, Text}
use Rattle.ada_tree.specs.StatementTree as statements
use Rattle.types.specs.Entities.{Entity, OfType, OfSubtype, Object, Constant, Literal, Exception, Subprogram as SubprogramEntity, Entry, Predefined, Put, Task, Protected, LibraryUnit, Doubtful}
use Rattle.types.specs.Scopes.{Scope, base_range_of, integer_type, number_of}
use Rattle.types.specs.Standings.{stands_first, stands_for}
use Rattle.types.specs.declared.standing.Standing.TheVariants as standing
use Rattle.expr_soundness.specs.expr_rules.proofs.TypedLaw.{back_empty, front_empty}
use Rattle.expr_soundness.specs.expr_rules.specs.declared.own.Wanted.TheVariants.{OfType as WantsType}
use Rattle.expr_soundness.specs.expr_rules.specs.ExpressionRules.{faults_of, name_faults, selectors_faults}
use Rattle.type_rules.specs.SubtypeNames.{entity_at_or_none}
use Rattle.part_code.specs.step_soundness.specs.Fitting.{entity_named}
use Rattle.part_code.specs.step_soundness.proofs.Naming.{put_called}
use Rattle.expr_code.specs.Widths.{width_of}
use Rattle.expr_soundness.specs.SoundScopes.{SoundScope}
use Rattle.expr_code.proofs.Widths.{integers_fit_width}
use Rattle.stmt_code.specs.Emitting.{IsLegalStatement}
use Rattle.part_code.specs.Lines.{LabelledValue, is_put, line_behind, line_of}

-- ---- the form

pub put_is : (e : Option Entity) → is_put e ≡ true → e ≡ Some Put
put_is (Some Put) h = refl
put_is None h = cc
put_is (Some (OfType form t)) h = cc
put_is (Some (OfSubtype t)) h = cc
put_is (Some (Object r t)) h = cc
put_is (Some (Constant t v)) h = cc
put_is (Some (Literal b)) h = cc
put_is (Some Exception) h = cc
put_is (Some (SubprogramEntity p)) h = cc
put_is (Some (Entry p)) h = cc
put_is (Some (Predefined o p)) h = cc
put_is (Some (Task n)) h = cc
put_is (Some (Protected o)) h = cc
put_is (Some LibraryUnit) h = cc
put_is (Some Doubtful) h = cc

-- a label and a value behind a name are written so
pub record Written (path : SelectorTrees) (label : List ℕ) (value : ExprTree) : Type 0 where
  pub at : ℕ
  pub is : path ≡ MoreSelectors (Arguments (MoreArguments (Text label at) (MoreArguments (tree.Value value) NoArguments))) NoSelectors

some_line : (x y : LabelledValue) → Some x ≡ Some y → x ≡ y
some_line x y e = cc

pub line_written : (path : SelectorTrees) (label : List ℕ) (value : ExprTree) → line_behind path ≡ Some (record { label = label; value = value })
    → Written path label value
line_written (MoreSelectors (Arguments (MoreArguments (Text l at) (MoreArguments (tree.Value e) NoArguments))) NoSelectors) label value h =
    let same = some_line (record { label = l; value = e }) (record { label = label; value = value }) h in
    record {
      at = at;
      is = ap (λ x. MoreSelectors (Arguments (MoreArguments (Text x.label at) (MoreArguments (tree.Value x.value) NoArguments))) NoSelectors) same;
    }
line_written NoSelectors label value h = cc
line_written (MoreSelectors (Component name) rest) label value h = cc
line_written (MoreSelectors (Attribute name) rest) label value h = cc
line_written (MoreSelectors x (MoreSelectors y rest)) label value h = absurd (none_behind x y rest h)
  where
    none_behind : (x : tree.SelectorTree) (y : tree.SelectorTree) (rest : SelectorTrees)
        → line_behind (MoreSelectors x (MoreSelectors y rest)) ≡ Some (record { label = label; value = value }) → ⊥
    none_behind (Component n) y rest h = cc
    none_behind (Attribute n) y rest h = cc
    none_behind (Arguments a) y rest h = cc
line_written (MoreSelectors (Arguments NoArguments) NoSelectors) label value h = cc
line_written (MoreSelectors (Arguments (MoreArguments (tree.Value e) rest)) NoSelectors) label value h = cc
line_written (MoreSelectors (Arguments (MoreArguments (Text l at) NoArguments)) NoSelectors) label value h = cc
line_written (MoreSelectors (Arguments (MoreArguments (Text l at) (MoreArguments (Text m there) rest))) NoSelectors) label value h = cc
line_written (MoreSelectors (Arguments (MoreArguments (Text l at) (MoreArguments (tree.Value e) (MoreArguments x rest)))) NoSelectors) label value h = cc

-- ---- what is legal

module _ (s : Scope) (name : NameTree) (label : List ℕ) (value : ExprTree) (h : IsLegalStatement s (statements.Call name)) (put : entity_named s name.first.name ≡ Some Put)
    (written : line_of name ≡ Some (record { label = label; value = value })) where
  faults : selectors_faults s name.first.place standing.Put name.selectors ≡ []
  faults =
      ap (λ w. selectors_faults s name.first.place w name.selectors) (sym (first_is (number_of s name.first.name) put))
      ∙ back_empty _ (selectors_faults s name.first.place (stands_first s (number_of s name.first.name)) name.selectors)
      (front_empty (name_faults s name.first name.selectors) _ h.unbroken)
    where
      first_is : (n : Option ℕ) → entity_at_or_none s n ≡ Some Put → stands_first s n ≡ standing.Put
      first_is None e = cc
      first_is (Some n) e = ap (stands_for n) e

  pub line_faults : faults_of s (WantsType integer_type) value ≡ []
  line_faults =
      let called = put_called s name.first.place name.selectors faults in
      let this = line_written name.selectors label value written in
      subst (λ e. faults_of s (WantsType integer_type) e ≡ []) (same_value label called.label called.at this.at called.value value (sym called.written ∙ this.is)) called.legal
    where
      same_value : (l m : List ℕ) (a b : ℕ) (x y : ExprTree)
          → MoreSelectors (Arguments (MoreArguments (Text m a) (MoreArguments (tree.Value x) NoArguments))) NoSelectors
          ≡ MoreSelectors (Arguments (MoreArguments (Text l b) (MoreArguments (tree.Value y) NoArguments))) NoSelectors
          → x ≡ y
      same_value l m a b x y e = cc

pub line_wide : (s : Scope) → SoundScope s → (e : ExprTree) → faults_of s (WantsType integer_type) e ≡ [] → width_of s e ≡ 1
line_wide s sound e h =
    integers_fit_width s sound (base_range_of integer_type) e (record { wanted = WantsType integer_type; fits = refl; unbroken = h }) sound.integer
