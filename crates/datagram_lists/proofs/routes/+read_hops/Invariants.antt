-- One hop and a shorter list.
use Rattle.datagram_lists.proofs.routes.+read_hops.Given as goal

abbrev pub decreases-read_hops : goal.decreases-read_hops
decreases-read_hops l = l.count
