use Rattle.std.proofs.Common.{◌∙◌, inl, inr, refl, subst, sym}
use Rattle.compiler.specs.ada_tree.specs.ProgramTree.{program_tree}
use Rattle.legality.specs.ProgramRules.{IsLegal}
use Rattle.parser.specs.Parsing.{Derives}
use Rattle.ravenscar.specs.BrokenRules.{ListsBrokenRules}
use Rattle.ravenscar.specs.ProgramRules.{IsRestricted}
use Rattle.adarun.specs.TextFaults.{AreFaultsOfTree, AreTextFaults}
use Rattle.adarun.proofs.Compiling.{read_tree}
use Rattle.adarun.proofs.Every.{alone_is, breaks_none, empty_of, filled_of, has_none, has_one, no_tree_first}
use Rattle.adarun.proofs.rules.text_faults.Goals as goal

pub returns-in-Err-parse-clause-faults : goal.returns-in-Err-parse-clause-faults
returns-in-Err-parse-clause-faults c =
    alone_is (AreTextFaults c.args.source.now) c.alone-in-Err-parse.result c.in-Err-parse.fault c.alone-in-Err-parse.ensures
    (λ not. inl (record {
      fault = c.in-Err-parse.fault;
      is_first = inr (no_tree_first _ _ _ _ c.in-Ok.ensures.sound c.deref.ensures.value c.in-Err-parse.ensures.fault not);
      alone = refl;
    }))

pub returns-then-not-is_empty-clause-tree : goal.returns-then-not-is_empty-clause-tree
returns-then-not-is_empty-clause-tree c = λ tree is_tree.
    let same = c.deref.ensures.value ∙ c.in-Ok.ensures.complete is_tree.tokens is_tree.spells in
    let only = c.in-Ok-parse.ensures.only tree (subst (Derives tree) (sym same) is_tree.derives) in
    inl (
      filled_of c.in_ok-broken.broken.items c.in_ok-broken.broken.len c.is_empty.result c.in_ok-broken.broken.ok.0 c.is_empty.ensures c.if-not-is_empty.true,
      subst (λ t. ListsBrokenRules t c.in_ok-broken.broken.items) only c.in_ok-broken.ensures,
    )

pub returns-in-Ok-compile-clause-faults : goal.returns-in-Ok-compile-clause-faults
returns-in-Ok-compile-clause-faults c =
    let none = empty_of c.in_ok-broken.broken.items c.in_ok-broken.broken.len c.is_empty.result c.in_ok-broken.broken.ok.0 c.is_empty.ensures c.if-not-is_empty.false in
    let kept = breaks_none _ _ none c.in_ok-broken.ensures in
    let is_tree = read_tree _ _ _ c.in-Ok-parse.program c.in-Ok-parse.program c.in-Ok.ensures.sound c.deref.ensures.value c.in-Ok-parse.ensures.found refl in
    inr (record {
      tree = program_tree c.in-Ok-parse.program;
      is_tree = is_tree;
      are_faults = has_none c.args.source.now _ _ none (record { is_tree = is_tree; legal = kept.0; restricted = kept.1 })
          (record { image = c.in-Ok-compile.field-0; compiles = c.in-Ok-compile.ensures.means });
    })

pub returns-in-Ok-compile-clause-tree : goal.returns-in-Ok-compile-clause-tree
returns-in-Ok-compile-clause-tree c = λ tree is_tree.
    let same = c.deref.ensures.value ∙ c.in-Ok.ensures.complete is_tree.tokens is_tree.spells in
    let only = c.in-Ok-parse.ensures.only tree (subst (Derives tree) (sym same) is_tree.derives) in
    let none = empty_of c.in_ok-broken.broken.items c.in_ok-broken.broken.len c.is_empty.result c.in_ok-broken.broken.ok.0 c.is_empty.ensures c.if-not-is_empty.false in
    let kept = breaks_none _ _ none c.in_ok-broken.ensures in
    has_none c.args.source.now tree _ none
    (record { is_tree = is_tree; legal = subst IsLegal only kept.0; restricted = subst IsRestricted only kept.1 })
    (record { image = c.in-Ok-compile.field-0; compiles = c.in-Ok-compile.ensures.means })

pub returns-clause-faults : goal.returns-clause-faults
returns-clause-faults c =
    let none = empty_of c.in_ok-broken.broken.items c.in_ok-broken.broken.len c.is_empty.result c.in_ok-broken.broken.ok.0 c.is_empty.ensures c.if-not-is_empty.false in
    let kept = breaks_none _ _ none c.in_ok-broken.ensures in
    let tree = program_tree c.in-Ok-parse.program in
    let is_tree = read_tree _ _ _ c.in-Ok-parse.program c.in-Ok-parse.program c.in-Ok.ensures.sound c.deref.ensures.value c.in-Ok-parse.ensures.found refl in
    alone_is (AreTextFaults c.args.source.now) c.alone-in-Err-compile.result c.in-Err-compile.fault c.alone-in-Err-compile.ensures
    (λ not. inr (record {
      tree = tree;
      is_tree = is_tree;
      are_faults = has_one c.args.source.now tree c.in-Err-compile.fault (record { is_tree = is_tree; legal = kept.0; restricted = kept.1 })
          (c.in-Err-compile.ensures.accepted tree (record { is_tree = is_tree; legal = kept.0; restricted = kept.1 })) not;
    }))

pub returns-clause-tree : goal.returns-clause-tree
returns-clause-tree c = λ tree is_tree.
    let same = c.deref.ensures.value ∙ c.in-Ok.ensures.complete is_tree.tokens is_tree.spells in
    let only = c.in-Ok-parse.ensures.only tree (subst (Derives tree) (sym same) is_tree.derives) in
    let none = empty_of c.in_ok-broken.broken.items c.in_ok-broken.broken.len c.is_empty.result c.in_ok-broken.broken.ok.0 c.is_empty.ensures c.if-not-is_empty.false in
    let kept = breaks_none _ _ none c.in_ok-broken.ensures in
    let legal = subst IsLegal only kept.0 in
    let restricted = subst IsRestricted only kept.1 in
    alone_is (AreFaultsOfTree c.args.source.now tree) c.alone-in-Err-compile.result c.in-Err-compile.fault c.alone-in-Err-compile.ensures
    (λ not.
    has_one c.args.source.now tree c.in-Err-compile.fault (record { is_tree = is_tree; legal = legal; restricted = restricted })
    (c.in-Err-compile.ensures.accepted tree (record { is_tree = is_tree; legal = legal; restricted = restricted })) not)
