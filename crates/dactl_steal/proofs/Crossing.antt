-- The board may be lent to other threads.
use denote.RattleType.{RattleType}
use denote.Param.Send.{IsSend, IsSync, Frees, sendable, part_keyless, recorded_sync, struct_sync}
use denote.Struct.Struct.{Struct}
use denote.Struct.Declared.{shape}
use Rattle.atomic_blocks.specs.contracts.rows.shared.Seat as parts
use Rattle.atomic_blocks.proofs.rows.shared.Seat.TheSendSync as part
use Rattle.atomic_table.specs.contracts.shared.Seat as places
use Rattle.atomic_table.proofs.shared.Seat.TheSendSync as place
use Rattle.std.specs.declared.alloc.Allocator as Allocator
use Rattle.crossbeam_deque.specs.contracts.handles.Stealer as Stealer
use Rattle.crossbeam_deque.specs.contracts.handles.Worker as Worker
use Rattle.crossbeam_deque.proofs.handles.Stealer.TheSendSync as stealer
use Rattle.crossbeam_deque.proofs.inner.Inner.TheSendSync as inner
use Rattle.crossbeam_queue.proofs.array_queue.Slotted.TheSendSync as slotted
use Rattle.crossbeam_queue.specs.contracts.array_queue.TurnsTableRuleOptionDoingUnit.TheImpl as turns
use Rattle.dactl_model.specs.contracts.graph.NodeId as NodeId
use Rattle.dactl_queue.specs.contracts.rule.Account as Account
use Rattle.dactl_steal.specs.contracts.rule.Even as Even
use Rattle.dactl_steal.specs.contracts.rule.EvenProtocolNodeIdAccount.TheImpl as even
use Rattle.std.specs.contracts.alloc.Global as Global
use Rattle.std.specs.contracts.impls.GlobalAllocator.TheImpl as allocator
use Rattle.dactl_steal.specs.contracts.board.StealBoard as boards
use Rattle.dactl_steal.specs.contracts.other.Other as others
use Rattle.dactl_steal.specs.contracts.own.Own as owns
use Rattle.dactl_steal.specs.contracts.roll.Enrolled as Enrolled
use Rattle.dactl_steal.specs.contracts.roll.EnrolledProtocolNodeIdMember.TheImpl as enrolled
use Rattle.dactl_steal.specs.contracts.roll.Member as Member
use Rattle.std.specs.contracts.option.Option as Option
use Rattle.std.proofs.Crossing.{crosses, frees, Vec-sync}
use Rattle.std.proofs.alloc.Global.TheSendSync as heap

-- a `&` to a seat of a table shows nothing, and one to a pass of a deque
place_sync : (S V : RattleType) → IsSend S → IsSync (places.the_row S V)
place_sync S V s = record { shared = λ d b o κ q. part_keyless (places.the_row S V) (place.the_send S V s) q d b o }

part_sync : (S V A : RattleType) (g : Allocator.Ghosts A.Denot) → IsSend S → IsSend A → Frees g g.dealloc_token → IsSync (parts.the_row S V A g)
part_sync S V A g s a f = record { shared = λ d b o κ q. part_keyless (parts.the_row S V A g) (part.the_send S V A g s a f) q d b o }

node_send : IsSend (Option.the_row NodeId.the_row)
node_send = search sendable depth 20

part_heap_sync : (S V : RattleType) → IsSend S → IsSync (parts.the_row S V Global.the_row allocator.ghosts)
part_heap_sync S V s = part_sync S V _ _ s heap.the_send frees

stealer_sync : IsSync (Stealer.the_row NodeId.the_row Global.the_row Account.the_row Even.the_row allocator.ghosts even.ghosts)
stealer_sync = search (stealer.the_sync, heap.the_send, heap.the_sync, frees, sendable) depth 30

worker_fields_sync : IsSync (Struct (shape (Worker.the_type NodeId.the_row Global.the_row Account.the_row Even.the_row allocator.ghosts even.ghosts)))
worker_fields_sync = search (crosses, sendable, inner.the_send, inner.the_sync, part_heap_sync, node_send, heap.the_send, heap.the_sync, frees) depth 40

own_sync : IsSync owns.the_row
own_sync = recorded_sync (Struct (shape owns.the_type)) owns.the_type.D owns.the_type.to owns.the_type.to_one (struct_sync (shape owns.the_type) (worker_fields_sync, (search (crosses, sendable) depth 30, tt)))

other_sync : IsSync others.the_row
other_sync = recorded_sync (Struct (shape others.the_type)) others.the_type.D others.the_type.to others.the_type.to_one
    (struct_sync (shape others.the_type) (search (stealer.the_field_sync, heap.the_send, heap.the_sync, frees, sendable) depth 30, (part_heap_sync _ _ node_send, tt)))

pub board_sync : IsSync boards.the_row
board_sync = recorded_sync (Struct (shape boards.the_type)) boards.the_type.D boards.the_type.to boards.the_type.to_one
    (struct_sync (shape boards.the_type) (
      slotted.the_field_sync _ _ _ _ (turns.ghosts NodeId.the_row Member.the_row Enrolled.the_row enrolled.ghosts turns.no_dict) _ node_send heap.the_send heap.the_sync frees,
      (place_sync _ _ node_send, (Vec-sync _ stealer_sync, (search (crosses, sendable, own_sync) depth 30, (search (crosses, sendable, other_sync) depth 30, (search sendable, tt))))),
    ))
