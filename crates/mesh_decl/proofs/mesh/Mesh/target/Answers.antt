use Rattle.std.proofs.Common.{◌<◌, ◌∙◌, subst, sym}
use Rattle.mesh_decl.specs.Mesh.{set_size, map_to}
use Rattle.mesh_decl.proofs.Declared.{mesh_is, map_at, read_elements, read_within, read_target}
use Rattle.mesh_decl.proofs.mesh.Mesh.target.Goals as goal

pub target_at-requires-clause-within : goal.target_at-requires-clause-within
target_at-requires-clause-within c = read_within _ c.args.self.now c.self.view_is c.self.invariant c.args.map c.index-decl.result.now
    c.requires.map c.index-decl.ensures c.args.element c.args.place c.requires.element c.requires.place

pub target_at-requires-clause-elements : goal.target_at-requires-clause-elements
target_at-requires-clause-elements c = read_elements _ c.args.self.now c.self.view_is c.self.invariant c.args.map c.index-decl.result.now c.requires.map c.index-decl.ensures

pub returns-clause-value : goal.returns-clause-value
returns-clause-value c = c.target_at.ensures ∙ read_target _ c.args.self.now c.self.view_is c.self.invariant c.args.map
    c.index-decl.result.now c.requires.map c.index-decl.ensures c.args.element c.args.place

pub returns-clause-within : goal.returns-clause-within
returns-clause-within c =
    let is = c.target_at.ensures ∙ read_target _ c.args.self.now c.self.view_is c.self.invariant c.args.map c.index-decl.result.now c.requires.map c.index-decl.ensures c.args.element c.args.place in
    let at = map_at c.args.self.now (mesh_is _ c.args.self.now c.self.view_is c.self.invariant c.args.map c.index-decl.result.now c.requires.map c.index-decl.ensures) c.args.map c.requires.map in
    subst (λ n. n < set_size c.args.self.now (map_to c.args.self.now c.args.map)) (sym is) (at.within c.args.element c.args.place c.requires.element c.requires.place)
