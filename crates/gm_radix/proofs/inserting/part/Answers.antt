use Rattle.std.proofs.Common.{inl, inr, arith}
use Rattle.gm_radix.proofs.Frames.{part_before, part_after, length-beside, nodes_of-put_beside}
use Rattle.gm_radix.proofs.inserting.part.Goals as goal
use Rattle.gm_radix.proofs.inserting.part.Goals.{then-index-block, else-index-block}

pub returns-clause-entries : goal.returns-clause-entries
returns-clause-entries g c =
    elim c.if-index-block.branch [
      | then-index-block w ↦
          elim c.requires.beside [
            | inl h ↦
                part_before c.args.block c.args.count c.args.index c.args.value (record {
                  found = c.index-node.ensures;
                  free = c.insert_reserved-moved.ensures.was_vacant;
                  copies = c.insert_reserved-moved.ensures.updates;
                  also_free = c.insert_reserved-leaf.ensures.was_vacant;
                  adds = c.insert_reserved-leaf.ensures.updates;
                  writes = rw w.left-is at c.set.ensures.updates;
                }) c.requires.count h.0 h.1 h.2
            | inr h ↦ absurd (omega arith)
          ]
      | else-index-block w ↦
          elim c.requires.beside [
            | inl h ↦ absurd (omega arith)
            | inr h ↦
                part_after c.args.block c.args.count c.args.index c.args.value (record {
                  found = c.index-node.ensures;
                  free = c.insert_reserved-moved.ensures.was_vacant;
                  copies = c.insert_reserved-moved.ensures.updates;
                  also_free = c.insert_reserved-leaf.ensures.was_vacant;
                  adds = c.insert_reserved-leaf.ensures.updates;
                  writes = rw w.left-is at c.set.ensures.updates;
                }) c.requires.count h.0 h.1 h.2
          ]
    ]

pub returns-clause-nodes : goal.returns-clause-nodes
returns-clause-nodes g c =
    omega (arith, c.insert_reserved-moved.ensures.len, c.insert_reserved-leaf.ensures.len, c.set.ensures.len, nodes_of-put_beside c.args.nodes.now.slots c.args.key c.args.block c.args.index c.args.value c.requires.beside)

pub overflow_add-count : goal.overflow_add-count
overflow_add-count g c =
    omega (arith, c.requires.count, length-beside c.args.nodes.now.slots c.args.key c.args.block c.args.index c.requires.beside)
