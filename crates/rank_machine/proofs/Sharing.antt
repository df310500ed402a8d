-- What several threads read of a distributed program may be shared.
use denote.Enum.Declared as enums
use denote.Param.Send.{IsSync, IsSend, struct_sync, enum_sync, sendable}
use denote.Param.SendFields.{as_row_sync}
use denote.Ref.{NamedLft}
use denote.Struct.Declared as structs
use denote.Struct.Field.{u32-field, i32-field}
use Rattle.std.proofs.Crossing.{crosses}
use Rattle.std.proofs.MapsCrossing as maps
use Rattle.c_tree.specs.contracts.lexer.tokens.Pos as Pos
use Rattle.c_tree.specs.contracts.expressions.BinaryOp as BinaryOp
use Rattle.c_tree.specs.contracts.expressions.MinMax as MinMax
use Rattle.c_tree.specs.contracts.expressions.UnaryOp as UnaryOp
use Rattle.mesh_decl.specs.contracts.owners.Owners as Owners
use Rattle.local_mesh.specs.contracts.types.RankMesh as RankMesh
use Rattle.local_mesh.specs.contracts.lists.LocalLists as LocalLists
use Rattle.loop_plan.specs.contracts.types.Plan as Plan
use Rattle.bound_program.specs.contracts.programs.Bound as Bound
use Rattle.bound_program.specs.contracts.programs.Var as Var
use Rattle.bound_program.specs.contracts.sites.Site as Site
use Rattle.bound_program.specs.contracts.acts.Item as Item
use Rattle.kernel_model.specs.contracts.types.kernels.RKernel as Kernel
use Rattle.kernel_code.specs.contracts.code.Code as Code
use Rattle.kernel_code.specs.contracts.op.Element as Element
use Rattle.kernel_code.specs.contracts.op.Op as Op
use Rattle.kernel_code.specs.contracts.part.Part as Part
use Rattle.rank_program.specs.contracts.runnable.Runnable as Runnable
use Rattle.kernel_runs.specs.contracts.row_batches.rows.RowRoom as RowRoom
use Rattle.kernel_runs.specs.contracts.worker_batches.room.BatchPart as BatchPart
use Rattle.kernel_runs.specs.contracts.worker_batches.room.BatchesRoom as BatchesRoom
use Rattle.rank_program.specs.contracts.room.KernelRoom as KernelRoom
use Rattle.rank_program.specs.contracts.room.Room as Room
use Rattle.rank_state.specs.contracts.rank_memory.stop.Stop as Stop
use Rattle.rank_machine.specs.contracts.ranks.RankPart as RankPart
use Rattle.rank_machine.specs.contracts.ranks.Round as Round
use Rattle.kernel_code.proofs.part.Part.TheLaws.TheKnot as parts
use Rattle.kernel_model.proofs.types.expressions.RExpr.TheLaws.TheKnot as expressions
use Rattle.kernel_model.proofs.types.statements.RStmt.TheLaws.TheKnot as statements
use Rattle.mesh_decl.specs.contracts.mesh.Mesh as Mesh

owners_sync : IsSync Owners.the_row
owners_sync = search (sendable, crosses, maps.crosses) depth 40

rank_mesh_sync : IsSync RankMesh.the_row
rank_mesh_sync = search (sendable, crosses, maps.crosses) depth 40

lists_sync : IsSync LocalLists.the_row
lists_sync = search (sendable, crosses, maps.crosses) depth 40

plan_sync : IsSync Plan.the_row
plan_sync = search (sendable, crosses, maps.crosses) depth 40

mesh_sync : IsSync Mesh.the_row
mesh_sync = search (sendable, crosses, maps.crosses) depth 40

kernel_sync : IsSync Kernel.the_row
kernel_sync = search (crosses, statements.crosses, expressions.crosses, sendable) depth 60 fits 20000

site_sync : IsSync Site.the_row
site_sync = search (sendable, crosses, maps.crosses) depth 40

var_sync : IsSync Var.the_row
var_sync = search (sendable, crosses, maps.crosses) depth 40

item_sync : IsSync Item.the_row
item_sync = search (crosses, expressions.crosses, sendable) depth 60 fits 20000

bound_sync : IsSync Bound.the_row
bound_sync = search (sendable, crosses, mesh_sync, kernel_sync, site_sync, var_sync, item_sync) depth 40

op_inside : IsSync (Op.the_field).row
op_inside =
    let u : IsSync (u32-field).row = search sendable in
    let i : IsSync (i32-field).row = search sendable in
    let p : IsSync (Pos.the_field).row = search (crosses, sendable) in
    let e : IsSync (Element.the_field).row = struct_sync (structs.shape Element.the_type) (u, (i, (p, tt))) in
    let unary : IsSync (UnaryOp.the_field).row = search (crosses, sendable) depth 40 in
    let binary : IsSync (BinaryOp.the_field).row = search (crosses, sendable) depth 40 in
    let extremum : IsSync (MinMax.the_field).row = search (crosses, sendable) depth 40 in
    enum_sync (enums.shape Op.the_type) (
      (u, (i, tt)),
      (
        (u, (u, tt)),
        (
          (u, (u, (i, (p, tt)))),
          (
            (u, (u, (u, (p, tt)))),
            (
              (u, (u, (u, (u, (p, tt))))),
              (
                (u, (u, (u, (u, (p, tt))))),
                (
                  (u, (unary, (u, tt))),
                  (
                    (u, (u, (u, tt))),
                    (
                      (u, (u, (u, tt))),
                      (
                        (u, (u, (u, tt))),
                        (
                          (u, (u, (e, tt))),
                          (
                            (u, (u, (e, tt))),
                            (
                              (u, (u, (e, tt))),
                              (
                                (u, (e, (e, tt))),
                                (
                                  (u, (e, (e, tt))),
                                  (
                                    (u, (e, (e, tt))),
                                    (
                                      (u, (u, (i, tt))),
                                      (
                                        (u, (u, (i, tt))),
                                        (
                                          (u, (u, (i, tt))),
                                          (
                                            (u, (u, (u, (p, tt)))),
                                            (
                                              (u, (binary, (u, (u, (p, tt))))),
                                              (
                                                (u, (binary, (u, (i, (p, tt))))),
                                                (
                                                  (u, (extremum, (u, (u, tt)))),
                                                  (
                                                    (u, (u, tt)),
                                                    (
                                                      (u, (binary, (u, (u, tt)))),
                                                      (
                                                        (u, (u, tt)),
                                                        (
                                                          (u, (u, tt)),
                                                          (
                                                            (u, tt),
                                                            (
                                                              (u, (u, tt)),
                                                              (
                                                                (u, (i, (p, tt))),
                                                                (
                                                                  (u, (u, (p, tt))),
                                                                  (
                                                                    (u, (u, (p, tt))),
                                                                    (
                                                                      (u, (u, (u, (p, (u, tt))))),
                                                                      (
                                                                        (u, (i, (p, (u, tt)))),
                                                                        (
                                                                          (u, (u, (p, (u, tt)))),
                                                                          (
                                                                            (u, (i, (p, (u, tt)))),
                                                                            (
                                                                              (u, (i, (p, (u, tt)))),
                                                                              tt,
                                                                            ),
                                                                          ),
                                                                        ),
                                                                      ),
                                                                    ),
                                                                  ),
                                                                ),
                                                              ),
                                                            ),
                                                          ),
                                                        ),
                                                      ),
                                                    ),
                                                  ),
                                                ),
                                              ),
                                            ),
                                          ),
                                        ),
                                      ),
                                    ),
                                  ),
                                ),
                              ),
                            ),
                          ),
                        ),
                      ),
                    ),
                  ),
                ),
              ),
            ),
          ),
        ),
      ),
    )

op_sync : IsSync Op.the_row
op_sync = as_row_sync Op.the_field op_inside

part_sync : IsSync (Part.the_field).row
part_sync = search (op_sync, crosses, parts.crosses, sendable) depth 60 fits 20000

code_sync : (a : NamedLft) → IsSync (Code.the_row a)
code_sync a = search (kernel_sync, part_sync, crosses, sendable) depth 40

pub runnable_sync : (a : NamedLft) → IsSync (Runnable.the_row a)
runnable_sync a = search (owners_sync, rank_mesh_sync, lists_sync, plan_sync, bound_sync, code_sync, crosses, sendable) depth 80 fits 40000

pub round_sync : (a b : NamedLft) → IsSync (Round.the_row a b)
round_sync a b = search (runnable_sync, crosses, sendable) depth 40

row_room_send : IsSend RowRoom.the_row
row_room_send = search (crosses, sendable) depth 60 fits 20000

batch_part_send : IsSend BatchPart.the_row
batch_part_send = search (row_room_send, crosses, sendable) depth 60 fits 20000

batches_send : IsSend BatchesRoom.the_row
batches_send = search (batch_part_send, crosses, sendable) depth 60 fits 20000

kernel_room_send : IsSend KernelRoom.the_row
kernel_room_send = search (row_room_send, batches_send, crosses, sendable) depth 60 fits 20000

room_send : IsSend Room.the_row
room_send = search (kernel_room_send, crosses, sendable) depth 60 fits 20000

stop_send : IsSend Stop.the_row
stop_send = search (crosses, sendable) depth 60 fits 20000

pub part_send : IsSend RankPart.the_row
part_send = search (room_send, stop_send, crosses, sendable) depth 60 fits 20000
