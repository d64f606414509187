use Rattle.ipam_listen.proofs.tcp.TcpIn+R+TcpStream.let_go.Given as goal

abbrev pub decreases-loop-left : goal.decreases-loop-left
decreases-loop-left g l = l.left
